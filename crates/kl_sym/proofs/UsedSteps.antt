-- One relocation entry more, of those that use a name.
use Rattle.std.proofs.Common.{ℕ, ◌≡◌, ◌+◌, ◌<◌, ◌≤◌, ◌∙◌, List, [], ◌∷◌, ◌++◌, length, get_or, take, map, slice_set, refl, ap, sym, arith, Bool, true, false, not, ◌&&◌, ◌||◌, cond, inl, inr}
use Rattle.std.specs.Prelude.{◌==◌, Option, Some, None, option_map, replicate, slice_get}
use Rattle.std.specs.Str.{bytes_eq}
use Rattle.std.specs.List.{list_any}
use Rattle.std.proofs.lemmas.Bool.{cases_Bool}
use Rattle.std.proofs.lemmas.List.{get_or-map, length-map}
use Rattle.std.proofs.lemmas.List.Folds.{list_any-append}
use Rattle.kl_elf.specs.declared.abi.TheConstants.{R_X86_64_NONE, STB_LOCAL}
use Rattle.kl_model.specs.Dynamic.{is_kept_field, is_used}
use Rattle.kl_model.specs.Kept.{input_at, is_kept, no_input, no_symbol}
use Rattle.kl_model.specs.Lists.{each}
use Rattle.kl_model.specs.Texts.{text_at}
use Rattle.kl_model.specs.declared.object.Input.{Input}
use Rattle.kl_model.specs.declared.object.RawField.{RawField}
use Rattle.kl_model.specs.declared.object.Symbol.{Symbol}
use Rattle.kl_model.specs.declared.kit.Kit.{Kit}
use Rattle.kl_model.proofs.Each.{each_all, each_more}
use Rattle.kl_names.specs.Tables.{piece_table}
use Rattle.kl_names.proofs.NameLists.{same_self}
use Rattle.kl_names.proofs.NotedSteps.{AreOnce, get-inside, set-one}
use Rattle.kl_names.proofs.TableAt.{table_at}
use Rattle.kl_sym.specs.Linkage.{AreSymbolNumbers, outer_name, used_number}
use Rattle.kl_sym.specs.UsedNames.{field_uses, input_uses, used_before}
use Rattle.kl_sym.proofs.FieldTargets.{no_entry_at}

pub same_map : {X Y : Type 0} (f g : X → Y) → ((x : X) → f x ≡ g x) → (xs : List X) → map f xs ≡ map g xs
same_map f g same [] = refl
same_map f g same (x ∷ xs) = rw (same x, same_map f g same xs) refl

or_false : (b : Bool) → (b || false) ≡ b
or_false true = refl
or_false false = refl

or_true : (b : Bool) → (b || true) ≡ true
or_true true = refl
or_true false = refl

or_or : (a b c : Bool) → ((a || b) || c) ≡ (a || (b || c))
or_or true b c = refl
or_or false b c = refl

-- one answer more
push : (bs : List Bool) (b : Bool) → list_any (λ b. b) (bs ++ b ∷ []) ≡ (list_any (λ b. b) bs || b)
push bs b = list_any-append (λ b. b) bs (b ∷ []) ∙ ap (λ c. list_any (λ b. b) bs || c) (or_false b)

-- the name that an entry uses, if it is linked and its symbol isn't LOCAL
abbrev pub used_name : Kit → List Input → ℕ → RawField → Option (List ℕ)
used_name kit inputs i f =
    cond (is_kept_field kit inputs i f && not (f.symbol == 0)) (outer_name (input_at inputs i) (get_or (input_at inputs i).object.symbols f.symbol no_symbol)) None

abbrev is_one : Option (List ℕ) → List ℕ → Bool
is_one None name = false
is_one (Some q) name = bytes_eq q name

and_false : (b : Bool) → (b && false) ≡ false
and_false true = refl
and_false false = refl

and_true : (b : Bool) → (b && true) ≡ b
and_true true = refl
and_true false = refl

module _ (kit : Kit) (inputs : List Input) (i : ℕ) where
  abbrev pub x : Input
  x = input_at inputs i

  uses-is : (name : List ℕ) (f : RawField) → field_uses kit inputs name i x f ≡ is_one (used_name kit inputs i f) name
  uses-is name f =
      let y = get_or x.object.symbols f.symbol no_symbol in
      go (f.symbol == 0) (y.binding == STB_LOCAL) (is_kept_field kit inputs i f) (text_at x.bytes y.name)
    where
      go : (zero_symbol local kept : Bool) (t : List ℕ)
          → ((not zero_symbol && (not local && bytes_eq t name)) && kept) ≡ is_one (cond (kept && not zero_symbol) (cond local None (Some t)) None) name
      go true local true t = refl
      go true local false t = refl
      go false true true t = refl
      go false true false t = refl
      go false false true t = and_true (bytes_eq t name)
      go false false false t = and_false (bytes_eq t name)

  -- some entry of the inputs before it, or of the first k of its own, uses a name
  abbrev pub used_up_to : ℕ → List ℕ → Bool
  used_up_to k name = used_before kit inputs i name || list_any (λ b. b) (each (take k x.object.fields) (λ k f. field_uses kit inputs name i x f ∷ []))

  pub used-none : (names : List (List ℕ)) → map (used_before kit inputs i) names ≡ map (used_up_to 0) names
  used-none names = same_map (used_before kit inputs i) (used_up_to 0) (λ name. sym (or_false (used_before kit inputs i name))) names

  used-more : (name : List ℕ) (k : ℕ) → k < length x.object.fields
      → used_up_to (k + 1) name ≡ (used_up_to k name || is_one (used_name kit inputs i (get_or x.object.fields k no_entry_at)) name)
  used-more name k h =
      let f = get_or x.object.fields k no_entry_at in
      let bs : List Bool = each (take k x.object.fields) (λ k f. field_uses kit inputs name i x f ∷ []) in
      ap (λ l. used_before kit inputs i name || list_any (λ b. b) l) (each_more (λ k f. field_uses kit inputs name i x f ∷ []) x.object.fields k no_entry_at h)
      ∙ (ap (λ b. used_before kit inputs i name || b) (push bs (field_uses kit inputs name i x f))
      ∙ (sym (or_or (used_before kit inputs i name) (list_any (λ b. b) bs) (field_uses kit inputs name i x f))
      ∙ ap (λ b. used_up_to k name || b) (uses-is name f)))

  module _ (h : i < length inputs) where
    used-whole : (name : List ℕ) (k : ℕ) → length x.object.fields ≤ k → used_up_to k name ≡ used_before kit inputs (i + 1) name
    used-whole name k past =
        ap (λ l. used_before kit inputs i name || list_any (λ b. b) l) (each_all (λ k f. field_uses kit inputs name i x f ∷ []) x.object.fields k past)
        ∙ (sym (list_any-append (λ b. b) (each (take i inputs) (input_uses kit inputs name)) (input_uses kit inputs name i x))
        ∙ ap (list_any (λ b. b)) (sym (each_more (input_uses kit inputs name) inputs i no_input h)))

    pub used-next : (names : List (List ℕ)) (k : ℕ) → length x.object.fields ≤ k → map (used_up_to k) names ≡ map (used_before kit inputs (i + 1)) names
    used-next names k past = same_map (used_up_to k) (used_before kit inputs (i + 1)) (λ name. used-whole name k past) names

  -- the number that an entry has leads to the name that it uses
  module _ (names : List (List ℕ)) (numbers : List (Option ℕ)) (symbols : AreSymbolNumbers names x numbers) (f : RawField) (known : f.symbol < length x.object.symbols) where
    abbrev y : Symbol
    y = get_or x.object.symbols f.symbol no_symbol

    pub as-many : length numbers ≡ length x.object.symbols
    as-many = sym (length-map numbers (option_map (slice_get names))) ∙ (ap length symbols ∙ length-map x.object.symbols (λ y. option_map Some (outer_name x y)))

    number-is : option_map (slice_get names) (get_or numbers f.symbol None) ≡ option_map Some (outer_name x y)
    number-is =
        let many = as-many in
        let there : f.symbol < length numbers = omega arith in
        sym (get_or-map (option_map (slice_get names)) numbers f.symbol None None there)
        ∙ (ap (λ l. get_or l f.symbol None) symbols ∙ get_or-map (λ y. option_map Some (outer_name x y)) x.object.symbols f.symbol no_symbol None known)

    leads : option_map (slice_get names) (used_number (piece_table kit inputs i) numbers f) ≡ option_map Some (used_name kit inputs i f)
    leads =
        let table = table_at kit inputs i f.section in
        elim (cases_Bool (is_kept kit inputs i f.section)) [
          | inr a ↦ rw (table, a) refl
          | inl a ↦ elim (cases_Bool (f.kind == R_X86_64_NONE)) [
            | inl b ↦ rw (table, a, b) refl
            | inr b ↦ elim (cases_Bool (f.symbol == 0)) [
              | inl c ↦ rw (table, a, b, c) refl
              | inr c ↦ rw (table, a, b, c) number-is
            ]
          ]
        ]

    pub number-leads : (n : ℕ) → used_number (piece_table kit inputs i) numbers f ≡ Some n → (q : List ℕ) × (used_name kit inputs i f ≡ Some q) × (slice_get names n ≡ Some q)
    number-leads n e = go (used_name kit inputs i f) refl
      where
        go : (o : Option (List ℕ)) → used_name kit inputs i f ≡ o → (q : List ℕ) × (used_name kit inputs i f ≡ Some q) × (slice_get names n ≡ Some q)
        go None same = let no : Some (slice_get names n) ≡ None = sym (ap (option_map (slice_get names)) e) ∙ (leads ∙ ap (option_map Some) same) in cc
        go (Some q) same =
            let both : Some (slice_get names n) ≡ Some (Some q) = sym (ap (option_map (slice_get names)) e) ∙ (leads ∙ ap (option_map Some) same) in
            let there : slice_get names n ≡ Some q = cc in
            (q, same, there)

    pub number-none : used_number (piece_table kit inputs i) numbers f ≡ None → used_name kit inputs i f ≡ None
    number-none e = go (used_name kit inputs i f) refl
      where
        go : (o : Option (List ℕ)) → used_name kit inputs i f ≡ o → used_name kit inputs i f ≡ None
        go None same = same
        go (Some q) same = let no : None ≡ Some (Some q) = sym (ap (option_map (slice_get names)) e) ∙ (leads ∙ ap (option_map Some) same) in cc

  -- marks with one entry more
  module _ (names : List (List ℕ)) (k : ℕ) (h : k < length x.object.fields) where
    pub marks-same : used_name kit inputs i (get_or x.object.fields k no_entry_at) ≡ None → map (used_up_to k) names ≡ map (used_up_to (k + 1)) names
    marks-same e = same_map (used_up_to k) (used_up_to (k + 1)) (λ name. sym (used-more name k h ∙ (rw e (or_false (used_up_to k name))))) names

    pub marks-more : AreOnce names → (n : ℕ) (q : List ℕ) → used_name kit inputs i (get_or x.object.fields k no_entry_at) ≡ Some q → slice_get names n ≡ Some q
        → slice_set (map (used_up_to k) names) n true ≡ map (used_up_to (k + 1)) names
    marks-more once n q e at =
        let self = same_self q in
        let one : used_up_to (k + 1) q ≡ true = used-more q k h ∙ rw (e, self) (or_true (used_up_to k q)) in
        ap (slice_set (map (used_up_to k) names) n) (sym one)
        ∙ sym (set-one (used_up_to k) (used_up_to (k + 1)) q (λ m apart. used-more m k h ∙ rw (e, apart) (or_false (used_up_to k m))) names n once at)

    pub mark-there : (n : ℕ) (q : List ℕ) → slice_get names n ≡ Some q → n < length (map (used_up_to k) names)
    mark-there n q at = get-inside (used_up_to k) names n q at

-- before the first input, and behind the last
pub used-nowhere : (kit : Kit) (inputs : List Input) (names : List (List ℕ)) → replicate (length names) false ≡ map (used_before kit inputs 0) names
used-nowhere kit inputs [] = refl
used-nowhere kit inputs (m ∷ ms) = ap (λ l. false ∷ l) (used-nowhere kit inputs ms)

pub used-everywhere : (kit : Kit) (inputs : List Input) (names : List (List ℕ)) (i : ℕ) → length inputs ≤ i → map (used_before kit inputs i) names ≡ map (is_used kit inputs) names
used-everywhere kit inputs names i past =
    same_map (used_before kit inputs i) (is_used kit inputs) (λ name. ap (list_any (λ b. b)) (each_all (input_uses kit inputs name) inputs i past)) names
