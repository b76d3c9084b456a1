-- One statement more.
use Rattle.std.proofs.Common.{◌≡◌, false, List, [], ◌∷◌, ◌++◌, refl, sym, ap, ◌∙◌, Option}
use Rattle.std.specs.Prelude.{Some, None, filter_map, unwrap_or}
use Rattle.std.specs.Option.{option_or}
use Rattle.std.specs.List.{cons_option}
use Rattle.std.proofs.lemmas.List.{append-nil}
use Rattle.std.proofs.lemmas.List.Elements.{filter_map-append}
use Rattle.kl_kit.specs.KitTexts.{last, one, many, kind_said, output_said, base_said, entry_said, input_said, run_said, edge_said, drop_said, needed_said, export_said, soname_said, symbolic_said, refuse_said}
use Rattle.kl_kit.specs.Readers.{also, parts_of}
use Rattle.kl_kit.specs.declared.parts.Parts.{Parts}
use Rattle.kl_kit.specs.declared.statement.Statement.{Statement}
use Rattle.kl_kit.specs.declared.statement.Statement.TheVariants as says

pub last-push : {X : Type 0} (xs : List X) (x : X) → last (xs ++ x ∷ []) ≡ Some x
last-push [] x = refl
last-push (y ∷ []) x = refl
last-push (y ∷ z ∷ xs) x = last-push (z ∷ xs) x

-- what many lines say with one more
pub many-push : {X : Type 0} (part : Statement → Option X) (ss : List Statement) (s : Statement) → many part (ss ++ s ∷ []) ≡ many part ss ++ cons_option (part s) []
many-push part ss s = filter_map-append part ss (s ∷ [])

pub one-push : {X : Type 0} (part : Statement → Option X) (ss : List Statement) (s : Statement) → one part (ss ++ s ∷ []) ≡ option_or (part s) (one part ss)
one-push part ss s = ap last (many-push part ss s) ∙ go (filter_map part ss) (part s)
  where
    go : {X : Type 0} (xs : List X) (o : Option X) → last (xs ++ cons_option o []) ≡ option_or o (last xs)
    go xs None = ap last (append-nil xs)
    go xs (Some x) = last-push xs x

abbrev next : List Statement → Statement → Parts
next ss s = record {
  kind = option_or (kind_said s) (one kind_said ss);
  output = option_or (output_said s) (one output_said ss);
  base = option_or (base_said s) (one base_said ss);
  entry = option_or (entry_said s) (one entry_said ss);
  inputs = many input_said ss ++ cons_option (input_said s) [];
  runs = many run_said ss ++ cons_option (run_said s) [];
  edges = many edge_said ss ++ cons_option (edge_said s) [];
  drops = many drop_said ss ++ cons_option (drop_said s) [];
  needed = many needed_said ss ++ cons_option (needed_said s) [];
  exports = many export_said ss ++ cons_option (export_said s) [];
  soname = option_or (soname_said s) (one soname_said ss);
  symbolic = unwrap_or (option_or (symbolic_said s) (one symbolic_said ss)) false;
  refuse = unwrap_or (option_or (refuse_said s) (one refuse_said ss)) false;
}

parts-next : (ss : List Statement) (s : Statement) → parts_of (ss ++ s ∷ []) ≡ next ss s
parts-next ss s =
    rw (
      one-push kind_said ss s,
      one-push output_said ss s,
      one-push base_said ss s,
      one-push entry_said ss s,
      many-push input_said ss s,
      many-push run_said ss s,
      many-push edge_said ss s,
      many-push drop_said ss s,
      many-push needed_said ss s,
      many-push export_said ss s,
      one-push soname_said ss s,
      one-push symbolic_said ss s,
      one-push refuse_said ss s,
    ) refl

also-next : (ss : List Statement) (s : Statement) → also (parts_of ss) s ≡ next ss s
also-next ss (says.Kind kind) = simp append-nil
also-next ss (says.Output name) = simp append-nil
also-next ss (says.Base n) = simp append-nil
also-next ss (says.Entry symbol) = simp append-nil
also-next ss (says.Input input) = simp append-nil
also-next ss (says.Run run) = simp append-nil
also-next ss (says.Edge edge) = simp append-nil
also-next ss (says.Drop section) = simp append-nil
also-next ss (says.Soname text) = simp append-nil
also-next ss (says.Needed text) = simp append-nil
also-next ss (says.Export symbol) = simp append-nil
also-next ss says.Symbolic = simp append-nil
also-next ss (says.Undefined refuse) = simp append-nil

-- the parts with what a line says are those that all lines say
pub also-parts : (ss : List Statement) (s : Statement) → also (parts_of ss) s ≡ parts_of (ss ++ s ∷ [])
also-parts ss s = also-next ss s ∙ sym (parts-next ss s)
