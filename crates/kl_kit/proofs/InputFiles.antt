-- The files of a text's inputs are in their form.
use Rattle.std.proofs.Common.{◌≡◌, ℕ, Bool, true, false, cond, List, [], ◌∷◌, refl, sym, subst, Option}
use Rattle.std.specs.Prelude.{Result, Ok, Err, IfOk, Some, None, filter_map}
use Rattle.std.specs.Option.{option_and_then, option_map}
use Rattle.std.specs.List.{AllByRecursion, cons_option}
use Rattle.kl_model.specs.declared.object.Part.{Part}
use Rattle.kl_model.specs.declared.object.Part.TheVariants.{Head, Drawn, Tail}
use Rattle.kl_model.specs.declared.kit.Kit.{Kit}
use Rattle.kl_model.specs.declared.kit.KitInput.{KitInput}
use Rattle.kl_model.specs.declared.kit.KitKind.{KitKind}
use Rattle.kl_model.specs.declared.kit.Run.{Run}
use Rattle.kl_model.specs.declared.kit.EdgeLine.{EdgeLine}
use Rattle.kl_kit.specs.Forms.{HasFile, base_of, is_file, file_of, kind_of, name_of, refuse_of, word_of}
use Rattle.kl_kit.specs.Keywords.{keyword_of}
use Rattle.kl_kit.specs.KitLines.{KitLine, edge_of, line_statement, run_of, statement_of, statements, word_at}
use Rattle.kl_kit.specs.KitTexts.{input_said, kit_of_statements, many}
use Rattle.kl_kit.specs.declared.fault.KitError.{KitError}
use Rattle.kl_kit.specs.declared.keyword.Keyword.{Keyword}
use Rattle.kl_kit.specs.declared.keyword.Keyword.TheVariants as keyword
use Rattle.kl_kit.specs.declared.statement.Statement.{Statement}
use Rattle.kl_kit.specs.declared.statement.Statement.TheVariants as says

none_of : {X : Type 0} (say : X → Statement) (o : Option X) → ((x : X) → input_said (say x) ≡ None) → option_and_then input_said (option_map say o) ≡ None
none_of say None h = refl
none_of say (Some x) h = h x

no_input : (o : Option KitInput) (i : KitInput) → o ≡ None → o ≡ Some i → HasFile i
no_input o i none e = cc

file_by : (part : Part) (number : ℕ) (word : List ℕ) (i : KitInput)
    → option_and_then input_said (option_map (λ file. says.Input (record { place = part; file = file; line = number })) (file_of word)) ≡ Some i → HasFile i
file_by part number word i e = go (is_file word) refl e
  where
    go : (t : Bool) → is_file word ≡ t
        → option_and_then input_said (option_map (λ file. says.Input (record { place = part; file = file; line = number })) (cond {A = Option (List ℕ)} t (Some word) None)) ≡ Some i → HasFile i
    go true is e = let same : record { place = part; file = word; line = number } ≡ i = cc in subst HasFile same is
    go false is e = cc

input_by : (k : Keyword) (number : ℕ) (ws : List (List ℕ)) (i : KitInput) → option_and_then input_said (statement_of k number ws) ≡ Some i → HasFile i
input_by keyword.Head number ws i e = file_by Head number (word_at ws 0) i e
input_by keyword.Object number ws i e = file_by Drawn number (word_at ws 0) i e
input_by keyword.Tail number ws i e = file_by Tail number (word_at ws 0) i e
input_by keyword.Kind number ws i e = no_input _ i (none_of {X = KitKind} (λ x. says.Kind x) (kind_of (word_at ws 0)) (λ x. refl)) e
input_by keyword.Output number ws i e = no_input _ i (none_of {X = List ℕ} (λ x. says.Output x) (name_of (word_at ws 0)) (λ x. refl)) e
input_by keyword.Base number ws i e = no_input _ i (none_of {X = ℕ} (λ x. says.Base x) (base_of (word_at ws 0)) (λ x. refl)) e
input_by keyword.Entry number ws i e = no_input _ i (none_of {X = List ℕ} (λ x. says.Entry x) (word_of (word_at ws 0)) (λ x. refl)) e
input_by keyword.Run number ws i e = no_input _ i (none_of {X = Run} (λ x. says.Run x) (run_of number ws) (λ x. refl)) e
input_by keyword.Edge number ws i e = no_input _ i (none_of {X = EdgeLine} (λ x. says.Edge x) (edge_of number ws) (λ x. refl)) e
input_by keyword.Drop number ws i e = no_input _ i (none_of {X = List ℕ} (λ x. says.Drop x) (word_of (word_at ws 0)) (λ x. refl)) e
input_by keyword.Soname number ws i e = no_input _ i (none_of {X = List ℕ} (λ x. says.Soname x) (word_of (word_at ws 0)) (λ x. refl)) e
input_by keyword.Needed number ws i e = no_input _ i (none_of {X = List ℕ} (λ x. says.Needed x) (word_of (word_at ws 0)) (λ x. refl)) e
input_by keyword.Export number ws i e = no_input _ i (none_of {X = List ℕ} (λ x. says.Export x) (word_of (word_at ws 0)) (λ x. refl)) e
input_by keyword.Symbolic number ws i e = cc
input_by keyword.Undefined number ws i e = no_input _ i (none_of {X = Bool} (λ x. says.Undefined x) (refuse_of (word_at ws 0)) (λ x. refl)) e

line_input : (l : KitLine) (i : KitInput) → option_and_then input_said (line_statement l) ≡ Some i → HasFile i
line_input l i e = go (keyword_of l.keyword) e
  where
    go : (o : Option Keyword) → option_and_then input_said (option_and_then (λ k. statement_of k l.number l.words) o) ≡ Some i → HasFile i
    go None e = cc
    go (Some k) e = input_by k l.number l.words i e

pub inputs_have : (ls : List KitLine) → AllByRecursion HasFile (many input_said (statements ls))
inputs_have [] = tt
inputs_have (l ∷ ls) = go (line_statement l) (λ i. line_input l i) (inputs_have ls)
  where
    more : (o : Option KitInput) → ((i : KitInput) → o ≡ Some i → HasFile i) → AllByRecursion HasFile (many input_said (statements ls)) → AllByRecursion HasFile (cons_option o (many input_said (statements ls)))
    more None is rest = rest
    more (Some i) is rest = (is i refl, rest)

    go : (o : Option Statement) → ((i : KitInput) → option_and_then input_said o ≡ Some i → HasFile i) → AllByRecursion HasFile (many input_said (statements ls))
        → AllByRecursion HasFile (filter_map input_said (cons_option o (statements ls)))
    go None is rest = rest
    go (Some s) is rest = more (input_said s) is rest

pub files_read : (ls : List KitLine) (result : Result Kit KitError) → IfOk result (λ kit. kit ≡ kit_of_statements (statements ls)) → IfOk result (λ kit. AllByRecursion HasFile kit.inputs)
files_read ls (Ok kit) is = subst (λ (k : Kit). AllByRecursion HasFile k.inputs) (sym is) (inputs_have ls)
files_read ls (Err e) is = tt
