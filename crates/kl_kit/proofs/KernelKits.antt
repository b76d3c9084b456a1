-- What the kit of a kernel's text keeps.
use Rattle.std.proofs.Common.{◌≡◌, ℕ, ◌*◌, ◌/◌, ◌%◌, ◌≤◌, Bool, true, false, ◌&&◌, cond, List, [], ◌∷◌, refl, sym, ap, subst, ◌∙◌, arith, Option}
use Rattle.std.specs.Prelude.{Result, Ok, Err, IfOk, OnOk, IsSome, Some, None, ◌==◌, nat_le, codes, filter_map, is_none, unwrap_or}
use Rattle.std.specs.Option.{option_and_then, option_map, option_map_or}
use Rattle.std.specs.List.{AllByRecursion, cons_option}
use Rattle.std.proofs.lemmas.Bool.{eqb-true, leb-true}
use Rattle.kl_base.proofs.Bools.{and_left, and_right}
use Rattle.kl_text.specs.Lines.{after_prefix}
use Rattle.kl_base.specs.declared.limits.TheConstants.{BASE_LIMIT, PAGE}
use Rattle.kl_model.specs.Lists.{only_if}
use Rattle.kl_model.specs.Kits.{is_kernel}
use Rattle.kl_model.specs.Fit.{IsKernelKit}
use Rattle.kl_model.specs.declared.kit.Kit.{Kit}
use Rattle.kl_model.specs.declared.kit.KitKind.{KitKind}
use Rattle.kl_model.specs.declared.kit.KitKind.TheVariants.{Kernel, Library}
use Rattle.kl_kit.specs.Forms.{base_if, base_of, digits_number, file_of, kind_of, name_of, refuse_of, word_of}
use Rattle.kl_kit.specs.Keywords.{keyword_of}
use Rattle.kl_model.specs.declared.object.Part.TheVariants.{Head, Drawn, Tail}
use Rattle.kl_model.specs.declared.kit.Run.{Run}
use Rattle.kl_model.specs.declared.kit.EdgeLine.{EdgeLine}
use Rattle.kl_kit.specs.KitLines.{KitLine, edge_of, line_statement, run_of, statement_of, statements, word_at}
use Rattle.kl_kit.specs.KitTexts.{base_said, default_base, entry_said, is_kernel_kit, kind_said, kit_of_statements, last, many, missing, one}
use Rattle.kl_kit.specs.declared.fault.KitError.{KitError}
use Rattle.kl_kit.specs.declared.fault.Needed.TheVariants as needed
use Rattle.kl_kit.specs.declared.keyword.Keyword.{Keyword}
use Rattle.kl_kit.specs.declared.keyword.Keyword.TheVariants as keyword
use Rattle.kl_kit.specs.declared.statement.Statement.{Statement}
use Rattle.kl_kit.specs.declared.statement.Statement.TheVariants as says
use Rattle.kl_model.proofs.Each.{none_left, none_right}

-- an address at which a kernel may begin
record IsBase (n : ℕ) : Type 0 where
  pub page : (m : ℕ) × (PAGE * m ≡ n)
  pub limit : n ≤ BASE_LIMIT

base_is : (o : Option ℕ) (m : ℕ) → option_and_then base_if o ≡ Some m → IsBase m
base_is None m e = cc
base_is (Some n) m e = go ((n % PAGE == 0) && nat_le n BASE_LIMIT) refl e
  where
    go : (t : Bool) → ((n % PAGE == 0) && nat_le n BASE_LIMIT) ≡ t → cond {A = Option ℕ} t (Some n) None ≡ Some m → IsBase m
    go true is e =
        let whole = eqb-true (n % PAGE) 0 (and_left (n % PAGE == 0) (nat_le n BASE_LIMIT) is) in
        let most = leb-true n BASE_LIMIT (and_right (n % PAGE == 0) (nat_le n BASE_LIMIT) is) in
        let same : n ≡ m = cc in
        subst IsBase same (record { page = (n / PAGE, omega arith); limit = most })
    go false is e = cc

-- no other line says a base
none_of : {X : Type 0} (say : X → Statement) (o : Option X) → ((x : X) → base_said (say x) ≡ None) → option_and_then base_said (option_map say o) ≡ None
none_of say None h = refl
none_of say (Some x) h = h x

no_base : (o : Option ℕ) (m : ℕ) → o ≡ None → o ≡ Some m → IsBase m
no_base o m none e = cc

base_by : (k : Keyword) (number : ℕ) (ws : List (List ℕ)) (m : ℕ) → option_and_then base_said (statement_of k number ws) ≡ Some m → IsBase m
unfolding base_of
base_by keyword.Base number ws m e = go (base_of (word_at ws 0)) refl e
  where
    go : (o : Option ℕ) → base_of (word_at ws 0) ≡ o → option_and_then base_said (option_map (λ n. says.Base n) o) ≡ Some m → IsBase m
    go None is e = cc
    go (Some n) is e = base_is (option_and_then digits_number (after_prefix (codes "0x") (word_at ws 0))) m (is ∙ e)
base_by keyword.Kind number ws m e = no_base _ m (none_of {X = KitKind} (λ x. says.Kind x) (kind_of (word_at ws 0)) (λ x. refl)) e
base_by keyword.Output number ws m e = no_base _ m (none_of {X = List ℕ} (λ x. says.Output x) (name_of (word_at ws 0)) (λ x. refl)) e
base_by keyword.Entry number ws m e = no_base _ m (none_of {X = List ℕ} (λ x. says.Entry x) (word_of (word_at ws 0)) (λ x. refl)) e
base_by keyword.Head number ws m e = no_base _ m (none_of {X = List ℕ} (λ x. says.Input (record { place = Head; file = x; line = number })) (file_of (word_at ws 0)) (λ x. refl)) e
base_by keyword.Object number ws m e = no_base _ m (none_of {X = List ℕ} (λ x. says.Input (record { place = Drawn; file = x; line = number })) (file_of (word_at ws 0)) (λ x. refl)) e
base_by keyword.Tail number ws m e = no_base _ m (none_of {X = List ℕ} (λ x. says.Input (record { place = Tail; file = x; line = number })) (file_of (word_at ws 0)) (λ x. refl)) e
base_by keyword.Run number ws m e = no_base _ m (none_of {X = Run} (λ x. says.Run x) (run_of number ws) (λ x. refl)) e
base_by keyword.Edge number ws m e = no_base _ m (none_of {X = EdgeLine} (λ x. says.Edge x) (edge_of number ws) (λ x. refl)) e
base_by keyword.Drop number ws m e = no_base _ m (none_of {X = List ℕ} (λ x. says.Drop x) (word_of (word_at ws 0)) (λ x. refl)) e
base_by keyword.Soname number ws m e = no_base _ m (none_of {X = List ℕ} (λ x. says.Soname x) (word_of (word_at ws 0)) (λ x. refl)) e
base_by keyword.Needed number ws m e = no_base _ m (none_of {X = List ℕ} (λ x. says.Needed x) (word_of (word_at ws 0)) (λ x. refl)) e
base_by keyword.Export number ws m e = no_base _ m (none_of {X = List ℕ} (λ x. says.Export x) (word_of (word_at ws 0)) (λ x. refl)) e
base_by keyword.Symbolic number ws m e = cc
base_by keyword.Undefined number ws m e = no_base _ m (none_of {X = Bool} (λ x. says.Undefined x) (refuse_of (word_at ws 0)) (λ x. refl)) e

line_base : (l : KitLine) (m : ℕ) → option_and_then base_said (line_statement l) ≡ Some m → IsBase m
line_base l m e = go (keyword_of l.keyword) e
  where
    go : (o : Option Keyword) → option_and_then base_said (option_and_then (λ k. statement_of k l.number l.words) o) ≡ Some m → IsBase m
    go None e = cc
    go (Some k) e = base_by k l.number l.words m e

-- each base that lines say is one
bases : (ls : List KitLine) → AllByRecursion IsBase (many base_said (statements ls))
bases [] = tt
bases (l ∷ ls) = go (line_statement l) (λ m. line_base l m) (bases ls)
  where
    more : (o : Option ℕ) → ((m : ℕ) → o ≡ Some m → IsBase m) → AllByRecursion IsBase (many base_said (statements ls)) → AllByRecursion IsBase (cons_option o (many base_said (statements ls)))
    more None is rest = rest
    more (Some m) is rest = (is m refl, rest)

    go : (o : Option Statement) → ((m : ℕ) → option_and_then base_said o ≡ Some m → IsBase m) → AllByRecursion IsBase (many base_said (statements ls))
        → AllByRecursion IsBase (filter_map base_said (cons_option o (statements ls)))
    go None is rest = rest
    go (Some s) is rest = more (base_said s) is rest

last_is : (xs : List ℕ) (m : ℕ) → AllByRecursion IsBase xs → last xs ≡ Some m → IsBase m
last_is [] m all e = cc
last_is (x ∷ []) m all e = let same : x ≡ m = cc in subst IsBase same all.0
last_is (x ∷ y ∷ xs) m all e = last_is (y ∷ xs) m all.1 e

kit_base : (ls : List KitLine) → IsBase (unwrap_or (one base_said (statements ls)) (default_base Kernel))
kit_base ls = go (one base_said (statements ls)) refl
  where
    go : (o : Option ℕ) → one base_said (statements ls) ≡ o → IsBase (unwrap_or o (default_base Kernel))
    go None e = record { page = (0xffffffff81000, refl); limit = omega arith }
    go (Some m) e = last_is (many base_said (statements ls)) m (bases ls) e

-- what isn't told doesn't stand
pub not_told : {X : Type 0} (t : Bool) (x : X) → only_if t x ≡ [] → t ≡ false
not_told true x e = cc
not_told false x e = refl

-- a kernel's text has an entry
entry_is : (kind : Option KitKind) (entry : Option (List ℕ)) → is_none kind ≡ false → (option_map_or is_kernel kind false && is_none entry) ≡ false → unwrap_or kind Kernel ≡ Kernel → IsSome entry
entry_is None entry known e kernel = cc
entry_is (Some Kernel) None known e kernel = cc
entry_is (Some Kernel) (Some w) known e kernel = refl
entry_is (Some Library) entry known e kernel = cc

pub kernel_is : (ls : List KitLine) → missing (statements ls) ≡ [] → (kit_of_statements (statements ls)).kind ≡ Kernel → IsKernelKit (kit_of_statements (statements ls))
kernel_is ls whole kernel =
    let ss = statements ls in
    let base : IsBase (kit_of_statements ss).base = rw kernel (kit_base ls) in
    let no_kind : only_if (is_none (one kind_said ss)) needed.Kind ≡ [] = none_left _ _ (none_left _ _ (none_left _ _ whole)) in
    let no_entry : only_if (is_kernel_kit ss && is_none (one entry_said ss)) needed.Entry ≡ [] = none_right _ _ (none_left _ _ whole) in
    record {
      kernel = kernel;
      entry = entry_is (one kind_said ss) (one entry_said ss) (not_told (is_none (one kind_said ss)) needed.Kind no_kind) (not_told (is_kernel_kit ss && is_none (one entry_said ss)) needed.Entry no_entry) kernel;
      base_page = base.page;
      base_limit = base.limit;
    }

pub kernel_read : (ls : List KitLine) (result : Result Kit KitError) → IfOk result (λ kit. kit ≡ kit_of_statements (statements ls)) → OnOk result (missing (statements ls) ≡ [])
    → IfOk result (λ kit. kit.kind ≡ Kernel → IsKernelKit kit)
kernel_read ls (Ok kit) is whole = λ kernel. subst IsKernelKit (sym is) (kernel_is ls whole (sym (ap (λ (k : Kit). k.kind) is) ∙ kernel))
kernel_read ls (Err e) is whole = tt
