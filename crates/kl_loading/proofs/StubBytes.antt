-- The stubs of a library: where the stub of a name stands, and what its bytes are.
use Rattle.std.proofs.Common.{ℕ, zero, suc, ◌≡◌, ◌+◌, ◌*◌, ◌%◌, ◌^◌, ◌<◌, ◌∙◌, List, [], ◌∷◌, ◌++◌, filter, length, length-append, get_or, map, refl, sym, subst, arith, Bool, true, false, not, inl, inr, nat_eq, replicate}
use Rattle.std.specs.Prelude.{Some, flat_map}
use Rattle.std.specs.List.{position_from}
use Rattle.std.proofs.lemmas.Bool.{cases_Bool, eq-eqb, eqb-true}
use Rattle.std.proofs.lemmas.List.{get_or_append_left, get_or-append-add}
use Rattle.kl_model.proofs.Covered.{In, here, there}
use Rattle.kl_model.proofs.ImageBytes.{byte-bytes_of, length-bytes_of, num-bytes_of}
use Rattle.kl_got.proofs.Distances as distances
use Rattle.kl_base.specs.declared.limits.TheConstants.{SIZE_LIMIT}
use Rattle.kl_le.specs.Bytes.{num}
use Rattle.kl_model.specs.Lists.{once}
use Rattle.kl_model.specs.Reaches.{less, plus, signed_4}
use Rattle.kl_model.specs.Slots.{name_of, stubs, takes_stub, way_of}
use Rattle.kl_model.specs.Tables.{stub_code}
use Rattle.kl_model.specs.Written.{byte_of, bytes_of}
use Rattle.kl_model.specs.declared.area.TheConstants as area
use Rattle.kl_model.specs.declared.graph.Field.{Field}
use Rattle.kl_model.specs.declared.graph.Graph.{Graph}

in_filter : {X : Type 0} (t : X → Bool) (x : X) (xs : List X) → In x xs → t x ≡ true → In x (filter t xs)
in_filter t x [] i e = elim i [ ]
in_filter t x (y ∷ ys) here e = rw e here
in_filter t x (y ∷ ys) (there i) e = elim (cases_Bool (t y)) [ inl k ↦ rw k (there (in_filter t x ys i e)) | inr k ↦ rw k (in_filter t x ys i e) ]

in_map : {X Y : Type 0} (f : X → Y) (x : X) (xs : List X) → In x xs → In (f x) (map f xs)
in_map f x [] i = elim i [ ]
in_map f x (y ∷ ys) here = here
in_map f x (y ∷ ys) (there i) = there (in_map f x ys i)

in_once : (n : ℕ) (xs : List ℕ) → In n xs → In n (once nat_eq xs)
in_once n [] i = elim i [ ]
in_once n (x ∷ xs) here = here
in_once n (x ∷ xs) (there i) = elim (cases_Bool (nat_eq x n)) [
  | inl e ↦ (let same : x ≡ n = eqb-true x n e in subst (λ m. In m (x ∷ filter (λ y. not (nat_eq x y)) (once nat_eq xs))) same here)
  | inr e ↦ there (in_filter (λ y. not (nat_eq x y)) n (once nat_eq xs) (in_once n xs i) (rw e refl))
]

-- the name of a field that takes a stub has one
pub stub_there : (g : Graph) (f : Field) → In f g.fields → takes_stub (way_of f) ≡ true → In (name_of f.target) (stubs g)
stub_there g f i e =
    in_once (name_of f.target) (map (λ (x : Field). name_of x.target) (filter (λ (x : Field). takes_stub (way_of x)) g.fields))
    (in_map (λ (x : Field). name_of x.target) f (filter (λ (x : Field). takes_stub (way_of x)) g.fields) (in_filter (λ (x : Field). takes_stub (way_of x)) f g.fields i e))

clash : {X : Type 0} (b : Bool) → b ≡ true → b ≡ false → X
clash true e f = cc
clash false e f = cc

in_tail : (x n : ℕ) (xs : List ℕ) → In n (x ∷ xs) → nat_eq n x ≡ false → In n xs
in_tail x n xs here e = clash (nat_eq n n) (eq-eqb n n refl) e
in_tail x n xs (there i) e = i

pub place_in : (n m : ℕ) (xs : List ℕ) → In n xs → (k : ℕ) × (k < length xs) × (position_from (nat_eq n) m xs ≡ Some (m + k)) × (get_or xs k 0 ≡ n)
place_in n m [] i = elim i [ ]
place_in n m (x ∷ xs) i = elim (cases_Bool (nat_eq n x)) [
  | inl e ↦ (0, omega arith, (let z : m + 0 ≡ m = omega arith in rw (e, z) refl), sym (eqb-true n x e))
  | inr e ↦
      let more = place_in n (m + 1) xs (in_tail x n xs i e) in
      (suc more.0, (let h = more.1 in omega (arith, h)), (let z : m + 1 + more.0 ≡ m + suc more.0 = omega arith in let p = rw z at more.2 in rw e p), more.3)
]

-- sixteen bytes each
pub length-stub : (stub slot : ℕ) → length (stub_code stub slot) ≡ 16
length-stub stub slot = refl

pub byte_of_stubs : (f : ℕ → List ℕ) (xs : List ℕ) (k j d : ℕ) → ((x : ℕ) → length (f x) ≡ 16) → k < length xs → j < 16 → get_or (flat_map f xs) (16 * k + j) 0 ≡ get_or (f (get_or xs k d)) j 0
byte_of_stubs f [] k j d long h l = absurd (omega (arith, h))
byte_of_stubs f (x ∷ xs) zero j d long h l = let z : 16 * 0 + j ≡ j = omega arith in rw z (get_or_append_left (f x) (flat_map f xs) 0 j (omega (arith, l, long x)))
byte_of_stubs f (x ∷ xs) (suc k) j d long h l =
    let first = long x in
    let next : 16 * suc k + j ≡ length (f x) + (16 * k + j) = omega (arith, first) in
    rw next (get_or-append-add (f x) (flat_map f xs) (16 * k + j) 0 ∙ byte_of_stubs f xs k j d long (omega (arith, h)) l)

pub length-stubs : (f : ℕ → List ℕ) (xs : List ℕ) → ((x : ℕ) → length (f x) ≡ 16) → length (flat_map f xs) ≡ 16 * length xs
length-stubs f [] long = refl
length-stubs f (x ∷ xs) long = omega (arith, length-append (f x) (flat_map f xs), long x, length-stubs f xs long)

-- its jump and its distance
pub jump_byte : (stub slot j : ℕ) → j < 2 → get_or (stub_code stub slot) j 0 ≡ byte_of area.JUMP j
jump_byte stub slot zero h = refl
jump_byte stub slot (suc zero) h = refl
jump_byte stub slot (suc (suc j)) h = absurd (omega (arith, h))

pub distance_byte : (stub slot j : ℕ) → j < 4 → get_or (stub_code stub slot) (2 + j) 0 ≡ byte_of (less (less slot stub) 6 % 2 ^ 32) j
distance_byte stub slot j h =
    let v = less (less slot stub) 6 % 2 ^ 32 in
    get_or-append-add (bytes_of 2 area.JUMP) (bytes_of 4 v ++ replicate 10 area.INT3) j 0
    ∙ (get_or_append_left (bytes_of 4 v) (replicate 10 area.INT3) 0 j (omega (arith, h, length-bytes_of 4 v)) ∙ byte-bytes_of 4 v j h)

-- the distance is the same at each base, and leads from the stub to the slot
pub leads_on : (base stub slot : ℕ) → base + stub < 2 ^ 64 → base + slot < 2 ^ 64 → slot < stub + SIZE_LIMIT → stub < slot + SIZE_LIMIT
    → plus (plus (base + stub) 6) (signed_4 (less (less slot stub) 6 % 2 ^ 32)) ≡ base + slot
leads_on base stub slot low high above below =
    let there = distances.leads (base + stub) (base + slot) low high (omega (arith, above)) (omega (arith, below)) in
    let d = less (less (base + slot) (base + stub)) 6 % 2 ^ 32 in
    let read : num (stub_code (base + stub) (base + slot)) 2 4 ≡ d = num-bytes_of (bytes_of 2 area.JUMP) (replicate 10 area.INT3) 4 d (omega arith) in
    let same : d ≡ less (less slot stub) 6 % 2 ^ 32 = omega (arith, low, high, above, below) in
    rw (read ∙ same) at there
