-- The area of a section's piece is one of its class.
use Rattle.std.proofs.Common.{ℕ, suc, ◌≡◌, ◌+◌, ◌∙◌, List, [], ◌∷◌, ◌++◌, refl, sym, arith, Bool, true, false, ◌&&◌, ◌||◌, inl, inr, eq-eqb}
use Rattle.std.specs.Prelude.{⊤, Option, Some, None, unwrap_or, cond, ◌==◌, codes}
use Rattle.std.specs.Str.{bytes_eq}
use Rattle.std.specs.List.{position_from}
use Rattle.std.proofs.lemmas.Bool.{cases_Bool}
use Rattle.std.proofs.lemmas.Cmp.{nat_eq_equiv}
use Rattle.std.proofs.lemmas.List.Folds.{list_any-append}
use Rattle.kl_base.proofs.Bools.{and_right}
use Rattle.kl_base.specs.declared.class.Class.{Class}
use Rattle.kl_base.specs.declared.class.Class.TheVariants.{Text, Rodata, Rwdata, Bss}
use Rattle.kl_elf.specs.declared.abi.TheConstants.{SHT_FINI_ARRAY, SHT_INIT_ARRAY}
use Rattle.kl_model.specs.Lists.{each_from, only_if, number_in}
use Rattle.kl_model.specs.Areas.{class_number, named_area, named_areas, same_class, typed_area}
use Rattle.kl_model.specs.Kept.{run_area}
use Rattle.kl_model.specs.Sound.{class_areas, run_areas}
use Rattle.kl_model.specs.declared.area.TheConstants as area
use Rattle.kl_model.specs.declared.kit.Kit.{Kit}
use Rattle.kl_model.specs.declared.kit.Run.{Run}

-- a number that was found is among those
abbrev FoundIn : List ℕ → Option ℕ → Type 0
FoundIn ns None = ⊤
FoundIn ns (Some a) = number_in ns a ≡ true

either : (b : Bool) (Q : Option ℕ → Type 0) (x y : Option ℕ) → Q x → Q y → Q (cond b x y)
either true Q x y h k = h
either false Q x y h k = k

or_is : (a b : Bool) → b ≡ true → (a || b) ≡ true
or_is true b e = refl
or_is false b e = e

or_first : (a b : Bool) → a ≡ true → (a || b) ≡ true
or_first true b e = refl
or_first false b e = cc

fallback : (ns : List ℕ) (o : Option ℕ) (rest : ℕ) → FoundIn ns o → number_in ns rest ≡ true → number_in ns (unwrap_or o rest) ≡ true
fallback ns None rest f h = h
fallback ns (Some a) rest f h = f

wider : (ns ms : List ℕ) (o : Option ℕ) → ((a : ℕ) → number_in ns a ≡ true → number_in ms a ≡ true) → FoundIn ns o → FoundIn ms o
wider ns ms None h f = tt
wider ns ms (Some a) h f = h a f

named_found : (c : Class) (name : List ℕ) → FoundIn (named_areas c) (named_area c name)
named_found Text name = elim (cases_Bool (bytes_eq name (codes ".init"))) [
  | inl a ↦ rw a refl
  | inr a ↦ elim (cases_Bool (bytes_eq name (codes ".fini"))) [ inl b ↦ rw (a, b) refl | inr b ↦ rw (a, b) tt ]
]
named_found Rodata name = elim (cases_Bool (bytes_eq name (codes ".eh_frame"))) [ inl a ↦ rw a refl | inr a ↦ rw a tt ]
named_found Rwdata name = elim (cases_Bool (bytes_eq name (codes ".ctors"))) [
  | inl a ↦ rw a refl
  | inr a ↦ elim (cases_Bool (bytes_eq name (codes ".dtors"))) [
    | inl b ↦ rw (a, b) refl
    | inr b ↦ elim (cases_Bool (bytes_eq name (codes ".init_array"))) [
      | inl d ↦ rw (a, b, d) refl
      | inr d ↦ elim (cases_Bool (bytes_eq name (codes ".fini_array"))) [ inl e ↦ rw (a, b, d, e) refl | inr e ↦ rw (a, b, d, e) tt ]
    ]
  ]
]
named_found Bss name = tt

typed_found : (c : Class) (kind : ℕ) → FoundIn (named_areas c) (typed_area c kind)
typed_found Text kind = tt
typed_found Rodata kind = tt
typed_found Rwdata kind = elim (cases_Bool (SHT_INIT_ARRAY == kind)) [
  | inl a ↦ rw a refl
  | inr a ↦ elim (cases_Bool (SHT_FINI_ARRAY == kind)) [ inl b ↦ rw (a, b) refl | inr b ↦ rw (a, b) tt ]
]
typed_found Bss kind = tt

module _ (c : Class) (name : List ℕ) where
  abbrev run_test : Run → Bool
  run_test r = bytes_eq name r.section && same_class c r.class

  run_found : (m n : ℕ) (rs : List Run) → m ≡ area.FIRST_RUN + n
      → FoundIn (each_from n (λ k (r : Run). only_if (same_class r.class c) (area.FIRST_RUN + k)) rs) (position_from run_test m rs)
  run_found m n [] e = tt
  run_found m n (r ∷ rs) e =
      let rest = run_found (m + 1) (suc n) rs (omega (arith, e)) in
      elim (cases_Bool (run_test r)) [
        | inl a ↦
            let flipped : same_class r.class c ≡ true = nat_eq_equiv.symm (class_number r.class) (class_number c) ∙ and_right (bytes_eq name r.section) (same_class c r.class) a in
            let here : ((area.FIRST_RUN + n) == m) ≡ true = eq-eqb _ _ (sym e) in
            rw (a, flipped) (or_first ((area.FIRST_RUN + n) == m) _ here)
        | inr a ↦ rw a (wider _ _ _ (λ p h. more (same_class r.class c) p h) rest)
      ]
    where
      more : (b : Bool) (p : ℕ) → number_in (each_from (suc n) (λ k (q : Run). only_if (same_class q.class c) (area.FIRST_RUN + k)) rs) p ≡ true
          → number_in (only_if b (area.FIRST_RUN + n) ++ each_from (suc n) (λ k (q : Run). only_if (same_class q.class c) (area.FIRST_RUN + k)) rs) p ≡ true
      more true p h = or_is ((area.FIRST_RUN + n) == p) _ h
      more false p h = h

module _ (kit : Kit) where
  in_named : (c : Class) (a : ℕ) → number_in (named_areas c) a ≡ true → number_in (class_areas kit c) a ≡ true
  in_named c a h = or_is (class_number c == a) _ (list_any-append (λ m. m == a) (run_areas kit c) (named_areas c) ∙ or_is _ _ h)

  in_runs : (c : Class) (a : ℕ) → number_in (run_areas kit c) a ≡ true → number_in (class_areas kit c) a ≡ true
  in_runs c a h = or_is (class_number c == a) _ (list_any-append (λ m. m == a) (run_areas kit c) (named_areas c) ∙ or_first _ _ h)

  pub area_known : (c : Class) (name : List ℕ) (kind : ℕ)
      → number_in (class_areas kit c) (unwrap_or (named_area c name) (unwrap_or (typed_area c kind) (unwrap_or (run_area kit c name) (class_number c)))) ≡ true
  area_known c name kind =
      fallback (class_areas kit c) (named_area c name) _ (wider (named_areas c) (class_areas kit c) (named_area c name) (in_named c) (named_found c name))
      (fallback (class_areas kit c) (typed_area c kind) _ (wider (named_areas c) (class_areas kit c) (typed_area c kind) (in_named c) (typed_found c kind))
      (fallback (class_areas kit c) (run_area kit c name) _ (wider (run_areas kit c) (class_areas kit c) (run_area kit c name) (in_runs c) (run_found c name area.FIRST_RUN 0 kit.runs refl))
      (or_first _ _ (eq-eqb (class_number c) (class_number c) refl))))
