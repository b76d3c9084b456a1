-- Texts that stand one after another, each with a zero byte behind it.
use Rattle.std.proofs.Common.{ℕ, zero, suc, ◌≡◌, ◌+◌, ◌<◌, ◌∙◌, List, [], ◌∷◌, ◌++◌, length, get_or, drop, refl, ap, sym, arith, length-append, Bool, true, false, nat_eq}
use Rattle.std.specs.Prelude.{◌≢◌, All, Some, flat_map, ◌==◌, sum_by, option_to_list}
use Rattle.std.specs.List.{before_first, list_any}
use Rattle.std.proofs.Math.Seq.{drop-append_seam}
use Rattle.std.proofs.lemmas.Bool.{ne_eqb}
use Rattle.std.proofs.lemmas.List.{append_assoc}
use Rattle.std.proofs.lemmas.List.Sums.{sum_by-cons}
use Rattle.kl_model.specs.Loaded.{text_in}
use Rattle.kl_model.specs.Sizes.{ended_size, strings_size}
use Rattle.kl_model.specs.Tables.{dyn_text, ended, strings_of, syms_from}
use Rattle.kl_model.specs.declared.graph.DynName.{DynName}
use Rattle.kl_model.specs.declared.graph.Graph.{Graph}
use Rattle.kl_model.specs.declared.kit.Kit.{Kit}
use Rattle.kl_model.specs.declared.object.Input.{Input}
use Rattle.kl_model.specs.declared.place.Placement.{Placement}
use Rattle.kl_elf.specs.declared.records.Sym.{Sym}
use Rattle.kl_loading.proofs.BeforeFirst.{before_pass}
use Rattle.kl_loading.specs.TablesReadBack.{HasTexts, IsText}

abbrev is_zero : ℕ → Bool
is_zero c = c == 0

-- a text without a zero byte ends at the next one
has_end : (t rest : List ℕ) → All (λ c. c ≢ 0) t → list_any is_zero (t ++ 0 ∷ rest) ≡ true
has_end [] rest h = refl
has_end (c ∷ t) rest h =
    let none : nat_eq c 0 ≡ false = ne_eqb c 0 (h 0 c (omega arith)) in
    rw none (has_end t rest (λ k d l. h (suc k) d (omega (arith, l))))

up_to_end : (t rest : List ℕ) → All (λ c. c ≢ 0) t → before_first is_zero (t ++ 0 ∷ rest) ≡ t
up_to_end [] rest h = refl
up_to_end (c ∷ t) rest h =
    let none : nat_eq c 0 ≡ false = ne_eqb c 0 (h 0 c (omega arith)) in
    before_pass is_zero c (t ++ 0 ∷ rest) none ∙ ap (λ xs. c ∷ xs) (up_to_end t rest (λ k d l. h (suc k) d (omega (arith, l))))

text_of : (before t rest : List ℕ) → All (λ c. c ≢ 0) t → text_in (before ++ (t ++ 0 ∷ rest)) (length before) ≡ Some t
text_of before t rest h =
    let there : drop (length before) (before ++ (t ++ 0 ∷ rest)) ≡ t ++ 0 ∷ rest = drop-append_seam before (t ++ 0 ∷ rest) in
    let some = has_end t rest h in
    let text = up_to_end t rest h in
    rw (there, some, text) refl

-- where text n of names stands
abbrev pub text_place : ℕ → ℕ → List DynName → ℕ
text_place at n [] = at
text_place at zero (d ∷ ds) = at
text_place at (suc n) (d ∷ ds) = text_place (suc (at + d.name.len)) n ds

pub name_place : (p : Placement) (g : Graph) (at n : ℕ) (ds : List DynName) (d : Sym) → n < length ds → (get_or (syms_from p g at ds) n d).name ≡ text_place at n ds
name_place p g at n [] d l = absurd (omega (arith, l))
name_place p g at zero (e ∷ es) d l = refl
name_place p g at (suc n) (e ∷ es) d l = name_place p g (suc (at + e.name.len)) n es d (omega (arith, l))

pub length-syms : (p : Placement) (g : Graph) (at : ℕ) (ds : List DynName) → length (syms_from p g at ds) ≡ length ds
length-syms p g at [] = refl
length-syms p g at (d ∷ ds) = ap suc (length-syms p g (suc (at + d.name.len)) ds)

pub place_inside : (at n : ℕ) (ds : List DynName) → n < length ds → text_place at n ds < at + sum_by (λ d. suc d.name.len) ds
place_inside at n [] l = absurd (omega (arith, l))
place_inside at zero (d ∷ ds) l = omega (arith, sum_by-cons (λ d. suc d.name.len) d ds)
place_inside at (suc n) (d ∷ ds) l = omega (arith, sum_by-cons (λ d. suc d.name.len) d ds, place_inside (suc (at + d.name.len)) n ds (omega (arith, l)))

length-ended : (t : List ℕ) → length (ended t) ≡ suc (length t)
length-ended t = omega (arith, length-append t (0 ∷ []))

regroup : (before t rest more : List ℕ) → before ++ ((ended t ++ more) ++ rest) ≡ (before ++ ended t) ++ (more ++ rest)
regroup before t rest more = ap (λ xs. before ++ xs) (append_assoc (ended t) more rest) ∙ sym (append_assoc before (ended t) (more ++ rest))

first_text : (before t rest more : List ℕ) → before ++ ((ended t ++ more) ++ rest) ≡ before ++ (t ++ 0 ∷ (more ++ rest))
first_text before t rest more = ap (λ xs. before ++ xs) (append_assoc (ended t) more rest ∙ append_assoc t (0 ∷ []) (more ++ rest))

pub text_there : (inputs : List Input) (before : List ℕ) (n : ℕ) (ds : List DynName) (rest : List ℕ) (d : DynName) → All (IsText inputs) ds → n < length ds
    → text_in (before ++ (flat_map (λ d. ended (dyn_text inputs d)) ds ++ rest)) (text_place (length before) n ds) ≡ Some (dyn_text inputs (get_or ds n d))
text_there inputs before n [] rest d h l = absurd (omega (arith, l))
text_there inputs before zero (e ∷ es) rest d h l =
    let more = flat_map (λ d. ended (dyn_text inputs d)) es in
    ap (λ s. text_in s (length before)) (first_text before (dyn_text inputs e) rest more) ∙ text_of before (dyn_text inputs e) (more ++ rest) (h 0 e (omega arith)).no_zero
text_there inputs before (suc n) (e ∷ es) rest d h l =
    let t = dyn_text inputs e in
    let more = flat_map (λ d. ended (dyn_text inputs d)) es in
    let long : length t ≡ e.name.len = (h 0 e (omega arith)).len in
    let count : length (before ++ ended t) ≡ suc (length before + e.name.len) = omega (arith, length-append before (ended t), length-ended t, long) in
    let later = text_there inputs (before ++ ended t) n es rest d (λ k d l. h (suc k) d (omega (arith, l))) (omega (arith, l)) in
    ap (λ s. text_in s (text_place (suc (length before + e.name.len)) n es)) (regroup before t rest more)
    ∙ (ap (λ at. text_in ((before ++ ended t) ++ (more ++ rest)) (text_place at n es)) (sym count) ∙ later)

-- how many bytes they have
length-texts : (inputs : List Input) (ds : List DynName) → All (IsText inputs) ds → length (flat_map (λ d. ended (dyn_text inputs d)) ds) ≡ sum_by (λ d. suc d.name.len) ds
length-texts inputs [] h = refl
length-texts inputs (d ∷ ds) h =
    let long : length (dyn_text inputs d) ≡ d.name.len = (h 0 d (omega arith)).len in
    length-append (ended (dyn_text inputs d)) (flat_map (λ d. ended (dyn_text inputs d)) ds)
    ∙ omega (arith, sum_by-cons (λ d. suc d.name.len) d ds, length-ended (dyn_text inputs d), long, length-texts inputs ds (λ k d l. h (suc k) d (omega (arith, l))))

length-endeds : (ts : List (List ℕ)) → length (flat_map ended ts) ≡ sum_by ended_size ts
length-endeds [] = refl
length-endeds (t ∷ ts) = length-append (ended t) (flat_map ended ts) ∙ omega (arith, sum_by-cons ended_size t ts, length-ended t, length-endeds ts)

pub length-strings : (kit : Kit) (inputs : List Input) (g : Graph) → HasTexts inputs g → length (strings_of kit inputs g) ≡ strings_size kit g
length-strings kit inputs g h =
    let names = flat_map (λ d. ended (dyn_text inputs d)) g.names in
    let soname = flat_map ended (option_to_list kit.soname) in
    let needed = flat_map ended kit.needed in
    omega (arith, length-append names (soname ++ needed), length-append soname needed, length-texts inputs g.names h, length-endeds (option_to_list kit.soname), length-endeds kit.needed)
