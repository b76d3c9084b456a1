-- A kit that was read can be linked: its lists are short, and its lines ascend.
use Rattle.std.proofs.Common.{ℕ, suc, ◌≡◌, ◌+◌, ◌<◌, ◌≤◌, ◌∙◌, List, [], ◌∷◌, ◌++◌, length, refl, sym, subst, ap, arith, Bool, false, inl, inr}
use Rattle.std.specs.Prelude.{Option, Some, None, Result, Ok, Err, All, AllPairs, IfOk, OnOk, ◌==◌, filter_map, is_none, option_to_list}
use Rattle.std.specs.Option.{option_and_then, option_map}
use Rattle.std.specs.List.{AllByRecursion, cons_option}
use Rattle.std.proofs.lemmas.Bool.{cases_Bool}
use Rattle.std.proofs.lemmas.List.Elements.{All-cons, All-nil}
use Rattle.std.proofs.lemmas.List.Kept.{AllPairs-cons}
use Rattle.kl_base.specs.declared.class.Class.{Class}
use Rattle.kl_base.specs.declared.limits.TheConstants.{KIT_TEXT_LIMIT}
use Rattle.kl_text.specs.Lines.{lines, put_byte, words}
use Rattle.kl_model.specs.Fit.{IsKit}
use Rattle.kl_model.specs.Lists.{each_from}
use Rattle.kl_model.specs.declared.kit.EdgeLine.{EdgeLine}
use Rattle.kl_model.specs.declared.kit.Kit.{Kit}
use Rattle.kl_model.specs.declared.kit.KitKind.{KitKind}
use Rattle.kl_model.specs.declared.kit.KitKind.TheVariants.{Library}
use Rattle.kl_model.specs.declared.kit.Run.{Run}
use Rattle.kl_kit.specs.Forms.{area_of, class_of, end_of, word_of}
use Rattle.kl_kit.specs.Keywords.{keyword_of}
use Rattle.kl_kit.specs.KitLines.{KitLine, edge_of, line_of, line_statement, run_of, said, statement_of, statements, word_at}
use Rattle.kl_kit.specs.KitTexts.{drop_said, edge_said, export_said, kind_said, kit_faults, kit_of, kit_of_statements, last, many, missing, needed_said, one, run_said}
use Rattle.kl_kit.specs.ReadableKits.{HasEdgeWords, IsLibraryText, IsOfKind, IsReadable}
use Rattle.kl_kit.specs.declared.fault.Needed.TheVariants as needed
use Rattle.kl_kit.specs.declared.keyword.Keyword.{Keyword}
use Rattle.kl_kit.specs.declared.keyword.Keyword.TheVariants as keyword
use Rattle.kl_kit.specs.declared.fault.KitError.{KitError}
use Rattle.kl_kit.specs.declared.statement.Statement.{Statement}
use Rattle.kl_kit.specs.declared.statement.Statement.TheVariants as says
use Rattle.kl_kit.proofs.KernelKits.{kernel_is, not_told}
use Rattle.kl_kit.proofs.ReadKits.{all_readable}
use Rattle.kl_kit.proofs.SoundLines.{text_sound, text_whole}
use Rattle.kl_model.proofs.Each.{none_left}

-- HOW MANY LINES A TEXT HAS
put-le : (b : ℕ) (ts : List (List ℕ)) → length (put_byte b ts) ≤ length ts + 1
put-le b [] = omega arith
put-le b (t ∷ ts) = omega arith

lines-le : (text : List ℕ) → length (lines text) ≤ length text
lines-le [] = omega arith
lines-le (b ∷ text) =
    let rest = lines-le text in let more = put-le b (lines text) in
    elim (cases_Bool (b == 10)) [
      | inl e ↦ rw e (omega (arith, rest))
      | inr e ↦ rw e (omega (arith, rest, more))
    ]

said-le : (n : ℕ) (ts : List (List ℕ)) → length (each_from n (λ n l. option_to_list (line_of n (words l))) ts) ≤ length ts
said-le n [] = omega arith
said-le n (t ∷ ts) = go (line_of n (words t)) (said-le (suc n) ts)
  where
    go : (o : Option KitLine) → length (each_from (suc n) (λ n l. option_to_list (line_of n (words l))) ts) ≤ length ts
        → length (option_to_list o ++ each_from (suc n) (λ n l. option_to_list (line_of n (words l))) ts) ≤ suc (length ts)
    go None r = omega (arith, r)
    go (Some l) r = omega (arith, r)

fewer : {X Y : Type 0} (f : X → Option Y) (xs : List X) → length (filter_map f xs) ≤ length xs
fewer f [] = omega arith
fewer {X = X} {Y = Y} f (x ∷ xs) = go (f x) (fewer f xs)
  where
    go : (o : Option Y) → length (filter_map f xs) ≤ length xs → length (cons_option o (filter_map f xs)) ≤ suc (length xs)
    go None r = omega (arith, r)
    go (Some y) r = omega (arith, r)

-- statements of one kind leave room for that which says the kit's kind
module _ {X : Type 0} (part : Statement → Option X) (other : (k : KitKind) → part (says.Kind k) ≡ None) where
  parted : (ss : List Statement) → length (many part ss) + length (many kind_said ss) ≤ length ss
  parted [] = omega arith
  parted (s ∷ ss) = go s (parted ss)
    where
      one_part : (o : Option X) → length (many part ss) + length (many kind_said ss) ≤ length ss → length (cons_option o (many part ss)) + length (many kind_said ss) ≤ suc (length ss)
      one_part None r = omega (arith, r)
      one_part (Some x) r = omega (arith, r)

      go : (s : Statement) → length (many part ss) + length (many kind_said ss) ≤ length ss → length (many part (s ∷ ss)) + length (many kind_said (s ∷ ss)) ≤ suc (length ss)
      go (says.Kind k) r = rw (other k) (omega (arith, r))
      go (says.Output a) r = one_part (part (says.Output a)) r
      go (says.Base a) r = one_part (part (says.Base a)) r
      go (says.Entry a) r = one_part (part (says.Entry a)) r
      go (says.Input a) r = one_part (part (says.Input a)) r
      go (says.Run a) r = one_part (part (says.Run a)) r
      go (says.Edge a) r = one_part (part (says.Edge a)) r
      go (says.Drop a) r = one_part (part (says.Drop a)) r
      go (says.Soname a) r = one_part (part (says.Soname a)) r
      go (says.Needed a) r = one_part (part (says.Needed a)) r
      go (says.Export a) r = one_part (part (says.Export a)) r
      go says.Symbolic r = one_part (part says.Symbolic) r
      go (says.Undefined a) r = one_part (part (says.Undefined a)) r

  short : (text : List ℕ) → length text ≤ KIT_TEXT_LIMIT → is_none (one kind_said (statements (said (lines text)))) ≡ false → length (many part (statements (said (lines text)))) < KIT_TEXT_LIMIT
  short text small known =
      let ss = statements (said (lines text)) in
      let both = parted ss in
      let few = fewer line_statement (said (lines text)) in
      let lines_few = said-le 1 (lines text) in
      let bytes = lines-le text in
      let some = go (many kind_said ss) known in
      omega (arith, both, few, lines_few, bytes, some, small)
    where
      go : (ks : List KitKind) → is_none (last ks) ≡ false → 0 < length ks
      go [] e = cc
      go (k ∷ ks) e = omega arith

-- A LINE'S NUMBER
not_said : {A X : Type 0} (part : Statement → Option X) (f : A → Statement) (o : Option A) (s : Statement) (x : X) → ((a : A) → part (f a) ≡ None)
    → option_map f o ≡ Some s → part s ≡ Some x → ⊥
not_said part f None s x none e h = cc
not_said part f (Some a) s x none e h = let same : f a ≡ s = cc in let no = none a in cc

run_number : (n : ℕ) (ws : List (List ℕ)) (r : Run) → run_of n ws ≡ Some r → r.line ≡ n
run_number n ws r e = go (word_of (word_at ws 0)) (class_of (word_at ws 1)) (word_of (word_at ws 2)) (word_of (word_at ws 3)) e
  where
    go : (a : Option (List ℕ)) (c : Option Class) (s t : Option (List ℕ))
        → option_and_then (λ section. option_and_then (λ class. option_and_then (λ start. option_map (λ end. record { section = section; class = class; start = start; end = end; line = n }) t) s) c) a ≡ Some r → r.line ≡ n
    go None c s t e = cc
    go (Some a) None s t e = cc
    go (Some a) (Some c) None t e = cc
    go (Some a) (Some c) (Some s) None e = cc
    go (Some a) (Some c) (Some s) (Some t) e = let same : record { section = a; class = c; start = s; end = t; line = n } ≡ r = cc in sym (ap (λ (r : Run). r.line) same)

edge_number : (n : ℕ) (ws : List (List ℕ)) (d : EdgeLine) → edge_of n ws ≡ Some d → d.line ≡ n
edge_number n ws d e = go (word_of (word_at ws 0)) (area_of (word_at ws 1)) (end_of (word_at ws 2)) e
  where
    go : (a : Option (List ℕ)) (c : Option ℕ) (t : Option Bool)
        → option_and_then (λ symbol. option_and_then (λ area. option_map (λ end. record { symbol = symbol; area = area; end = end; line = n }) t) c) a ≡ Some d → d.line ≡ n
    go None c t e = cc
    go (Some a) None t e = cc
    go (Some a) (Some c) None e = cc
    go (Some a) (Some c) (Some t) e = let same : record { symbol = a; area = c; end = t; line = n } ≡ d = cc in sym (ap (λ (d : EdgeLine). d.line) same)

inner_said : {A : Type 0} (f : A → Statement) (inner : Statement → Option A) (o : Option A) (s : Statement) (x : A)
    → option_map f o ≡ Some s → ((a : A) → inner (f a) ≡ Some a) → inner s ≡ Some x → o ≡ Some x
inner_said f inner None s x e is h = cc
inner_said f inner (Some a) s x e is h = let same : f a ≡ s = cc in let found = is a in cc

said_run : (k : Keyword) (n : ℕ) (ws : List (List ℕ)) (s : Statement) (r : Run) → statement_of k n ws ≡ Some s → run_said s ≡ Some r → r.line ≡ n
said_run keyword.Kind n ws s r e h = absurd (not_said run_said says.Kind _ s r (λ a. refl) e h)
said_run keyword.Output n ws s r e h = absurd (not_said run_said says.Output _ s r (λ a. refl) e h)
said_run keyword.Base n ws s r e h = absurd (not_said run_said says.Base _ s r (λ a. refl) e h)
said_run keyword.Entry n ws s r e h = absurd (not_said run_said says.Entry _ s r (λ a. refl) e h)
said_run keyword.Head n ws s r e h = absurd (not_said run_said (λ file. says.Input (record { place = _; file = file; line = n })) _ s r (λ a. refl) e h)
said_run keyword.Object n ws s r e h = absurd (not_said run_said (λ file. says.Input (record { place = _; file = file; line = n })) _ s r (λ a. refl) e h)
said_run keyword.Tail n ws s r e h = absurd (not_said run_said (λ file. says.Input (record { place = _; file = file; line = n })) _ s r (λ a. refl) e h)
said_run keyword.Run n ws s r e h = run_number n ws r (inner_said says.Run run_said (run_of n ws) s r e (λ a. refl) h)
said_run keyword.Edge n ws s r e h = absurd (not_said run_said says.Edge _ s r (λ a. refl) e h)
said_run keyword.Drop n ws s r e h = absurd (not_said run_said says.Drop _ s r (λ a. refl) e h)
said_run keyword.Soname n ws s r e h = absurd (not_said run_said says.Soname _ s r (λ a. refl) e h)
said_run keyword.Needed n ws s r e h = absurd (not_said run_said says.Needed _ s r (λ a. refl) e h)
said_run keyword.Export n ws s r e h = absurd (not_said run_said says.Export _ s r (λ a. refl) e h)
said_run keyword.Symbolic n ws s r e h = let same : says.Symbolic ≡ s = cc in let no : run_said says.Symbolic ≡ None = refl in cc
said_run keyword.Undefined n ws s r e h = absurd (not_said run_said says.Undefined _ s r (λ a. refl) e h)

said_edge : (k : Keyword) (n : ℕ) (ws : List (List ℕ)) (s : Statement) (d : EdgeLine) → statement_of k n ws ≡ Some s → edge_said s ≡ Some d → d.line ≡ n
said_edge keyword.Kind n ws s d e h = absurd (not_said edge_said says.Kind _ s d (λ a. refl) e h)
said_edge keyword.Output n ws s d e h = absurd (not_said edge_said says.Output _ s d (λ a. refl) e h)
said_edge keyword.Base n ws s d e h = absurd (not_said edge_said says.Base _ s d (λ a. refl) e h)
said_edge keyword.Entry n ws s d e h = absurd (not_said edge_said says.Entry _ s d (λ a. refl) e h)
said_edge keyword.Head n ws s d e h = absurd (not_said edge_said (λ file. says.Input (record { place = _; file = file; line = n })) _ s d (λ a. refl) e h)
said_edge keyword.Object n ws s d e h = absurd (not_said edge_said (λ file. says.Input (record { place = _; file = file; line = n })) _ s d (λ a. refl) e h)
said_edge keyword.Tail n ws s d e h = absurd (not_said edge_said (λ file. says.Input (record { place = _; file = file; line = n })) _ s d (λ a. refl) e h)
said_edge keyword.Run n ws s d e h = absurd (not_said edge_said says.Run _ s d (λ a. refl) e h)
said_edge keyword.Edge n ws s d e h = edge_number n ws d (inner_said says.Edge edge_said (edge_of n ws) s d e (λ a. refl) h)
said_edge keyword.Drop n ws s d e h = absurd (not_said edge_said says.Drop _ s d (λ a. refl) e h)
said_edge keyword.Soname n ws s d e h = absurd (not_said edge_said says.Soname _ s d (λ a. refl) e h)
said_edge keyword.Needed n ws s d e h = absurd (not_said edge_said says.Needed _ s d (λ a. refl) e h)
said_edge keyword.Export n ws s d e h = absurd (not_said edge_said says.Export _ s d (λ a. refl) e h)
said_edge keyword.Symbolic n ws s d e h = let same : says.Symbolic ≡ s = cc in let no : edge_said says.Symbolic ≡ None = refl in cc
said_edge keyword.Undefined n ws s d e h = absurd (not_said edge_said says.Undefined _ s d (λ a. refl) e h)

-- WHAT LINES SAY ASCENDS WITH THEM
module _ {X : Type 0} (part : Statement → Option X) (number : X → ℕ)
    (of_line : (k : Keyword) (n : ℕ) (ws : List (List ℕ)) (s : Statement) (x : X) → statement_of k n ws ≡ Some s → part s ≡ Some x → number x ≡ n) where
  abbrev numbered : ℕ → List (List ℕ) → List KitLine
  numbered n ts = each_from n (λ n l. option_to_list (line_of n (words l))) ts

  abbrev From : ℕ → List X → Type 0
  From n xs = All (λ x. n ≤ number x) xs × AllPairs (λ x y. number x ≤ number y) xs

  later : (n : ℕ) (xs : List X) → From (suc n) xs → From n xs
  later n xs f = ((λ k d l. let h = f.0 k d l in omega (arith, h)), f.1)

  one_more : (n : ℕ) (x : X) (xs : List X) → number x ≡ n → From (suc n) xs → From n (x ∷ xs)
  one_more n x xs is f =
      (All-cons (λ x. n ≤ number x) x xs (omega (arith, is)) (later n xs f).0, AllPairs-cons (λ x y. number x ≤ number y) x xs (λ k d l. let h = f.0 k d l in omega (arith, is, h)) f.1)

  of_statement : (l : KitLine) (s : Statement) (x : X) → line_statement l ≡ Some s → part s ≡ Some x → number x ≡ l.number
  of_statement l s x e h = go (keyword_of l.keyword) e
    where
      go : (o : Option Keyword) → option_and_then (λ k. statement_of k l.number l.words) o ≡ Some s → number x ≡ l.number
      go None e = cc
      go (Some k) e = of_line k l.number l.words s x e h

  ascend : (n : ℕ) (ts : List (List ℕ)) → From n (many part (statements (numbered n ts)))
  ascend n [] = (All-nil (λ x. n ≤ number x), λ i j d low high. absurd (omega (arith, low, high)))
  ascend n (t ∷ ts) = of_words (words t) (ascend (suc n) ts)
    where
      rest : List KitLine
      rest = numbered (suc n) ts

      of_part : (l : KitLine) (s : Statement) → l.number ≡ n → line_statement l ≡ Some s → (o : Option X) → part s ≡ o → From (suc n) (many part (statements rest)) → From n (cons_option o (many part (statements rest)))
      of_part l s is e None h f = later n _ f
      of_part l s is e (Some x) h f = one_more n x _ (of_statement l s x e h ∙ is) f

      of_said : (l : KitLine) → l.number ≡ n → (o : Option Statement) → line_statement l ≡ o → From (suc n) (many part (statements rest)) → From n (many part (cons_option o (statements rest)))
      of_said l is None e f = later n _ f
      of_said l is (Some s) e f = of_part l s is e (part s) refl f

      of_kit_line : (o : Option KitLine) → ((l : KitLine) → o ≡ Some l → l.number ≡ n) → From (suc n) (many part (statements rest)) → From n (many part (statements (option_to_list o ++ rest)))
      of_kit_line None is f = later n _ f
      of_kit_line (Some l) is f = of_said l (is l refl) (line_statement l) refl f

      line_number : (ws : List (List ℕ)) (l : KitLine) → line_of n ws ≡ Some l → l.number ≡ n
      line_number [] l e = cc
      line_number (w ∷ ws) l e = grind arith

      of_words : (ws : List (List ℕ)) → From (suc n) (many part (statements rest)) → From n (many part (statements (option_to_list (line_of n ws) ++ rest)))
      of_words ws f = of_kit_line (line_of n ws) (line_number ws) f

all_of : {X : Type 0} (P : X → Type 0) (xs : List X) → AllByRecursion P xs → All P xs
all_of P [] are = All-nil P
all_of P (x ∷ xs) are = All-cons P x xs are.0 (all_of P xs are.1)

library_base : (kit : Kit) → IsOfKind kit.kind kit → kit.kind ≡ Library → kit.base ≡ 0
library_base kit of_kind is = let library : IsLibraryText kit = subst (λ (k : KitKind). IsOfKind k kit) is of_kind in library.base

module _ (text : List ℕ) (small : length text ≤ KIT_TEXT_LIMIT) (none : kit_faults text ≡ []) where
  abbrev ls : List KitLine
  ls = said (lines text)

  whole : missing (statements ls) ≡ []
  whole = text_whole text none

  known : is_none (one kind_said (statements ls)) ≡ false
  known = not_told (is_none (one kind_said (statements ls))) needed.Kind (none_left _ _ (none_left _ _ (none_left _ _ whole)))

  readable : IsReadable (kit_of_statements (statements ls))
  readable = all_readable ls (text_sound text none) whole

  is_kit : IsKit (kit_of_statements (statements ls))
  is_kit = record {
    inputs = (let few = readable.count in omega (arith, few));
    runs = short run_said (λ k. refl) text small known;
    edges = short edge_said (λ k. refl) text small known;
    drops = short drop_said (λ k. refl) text small known;
    needed = short needed_said (λ k. refl) text small known;
    exports = short export_said (λ k. refl) text small known;
    runs_ascend = (ascend run_said (λ r. r.line) said_run 1 (lines text)).1;
    edges_ascend = (ascend edge_said (λ d. d.line) said_edge 1 (lines text)).1;
    areas = λ k d l. (all_of HasEdgeWords (kit_of_statements (statements ls)).edges readable.edges k d l).area;
    kernel = kernel_is ls whole;
    library = library_base (kit_of_statements (statements ls)) readable.kind;
  }

  text_links : IsKit (kit_of text)
  unfolding kit_of
  text_links = is_kit

pub linked_read : (text : List ℕ) (result : Result Kit KitError) → length text ≤ KIT_TEXT_LIMIT → IfOk result (λ kit. kit ≡ kit_of text) → OnOk result (kit_faults text ≡ []) → IfOk result IsKit
linked_read text (Ok kit) small is none = subst IsKit (sym is) (text_links text small none)
linked_read text (Err e) small is none = tt
