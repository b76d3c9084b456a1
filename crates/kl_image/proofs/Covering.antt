-- The header that covers an address, among headers no two of which cover one byte.
use Rattle.std.proofs.Common.{ℕ, zero, suc, ◌≡◌, ◌+◌, ◌<◌, ◌≤◌, ◌∙◌, ◌&&◌, Bool, true, false, List, [], ◌∷◌, length, get_or, refl, ap, sym, arith, lt-ltb}
use Rattle.std.specs.Prelude.{AllPairs, nat_lt, nat_le, find, Option, Some, None}
use Rattle.std.specs.Option.{option_map_or}
use Rattle.std.specs.List.{list_any}
use Rattle.std.proofs.lemmas.Bool.{and_parts, ltb-true, leb-true, le-leb}
use Rattle.std.proofs.lemmas.List.Folds.{list_any_none, list_any_at}
use Rattle.kl_elf.specs.declared.records.Phdr.{Phdr}
use Rattle.kl_model.specs.Loaded.{is_covered}
use Rattle.kl_model.specs.Memory.{covers, segments}
use Rattle.kl_image.specs.Headers.{is_load}
use Rattle.kl_image.specs.Loadable.{CoverNoByte}

pub record Covers (a : ℕ) (s : Phdr) : Type 0 where
  pub load : is_load s ≡ true
  pub starts : s.vaddr ≤ a
  pub ends : a < s.vaddr + s.memsz

pub cover_parts : (a : ℕ) (s : Phdr) → covers a s ≡ true → Covers a s
cover_parts a s is =
    let x = and_parts (is_load s) (nat_le s.vaddr a && nat_lt a (s.vaddr + s.memsz)) is in
    let y = and_parts (nat_le s.vaddr a) (nat_lt a (s.vaddr + s.memsz)) x.1 in
    record { load = x.0; starts = leb-true s.vaddr a y.0; ends = ltb-true a (s.vaddr + s.memsz) y.1 }

pub cover_is : (a : ℕ) (s : Phdr) → is_load s ≡ true → s.vaddr ≤ a → a < s.vaddr + s.memsz → covers a s ≡ true
cover_is a s load starts ends = rw (load, le-leb s.vaddr a starts, lt-ltb a (s.vaddr + s.memsz) ends) refl

-- it is the first, wherever it stands
pub found_at : (a : ℕ) (ss : List Phdr) (k : ℕ) (d : Phdr) → AllPairs CoverNoByte ss → k < length ss → covers a (get_or ss k d) ≡ true
    → find (covers a) ss ≡ Some (get_or ss k d)
found_at a [] k d apart h is = absurd (omega arith)
found_at a (s ∷ ss) zero d apart h is = rw is refl
found_at a (s ∷ ss) (suc k) d apart h is =
    go (covers a s) refl (found_at a ss k d (λ i j d less short. apart (suc i) (suc j) d (omega arith) (omega arith)) (omega arith) is)
  where
    go : (x : Bool) → covers a s ≡ x → find (covers a) ss ≡ Some (get_or ss k d) → find (covers a) (s ∷ ss) ≡ Some (get_or ss k d)
    go true e rest = absurd (apart 0 (suc k) d (omega arith) h a e is)
    go false e rest = rw e rest

-- where what is found stands
pub record IsFound (p : Phdr → Bool) (ss : List Phdr) (s : Phdr) : Type 0 where
  pub place : ℕ
  pub inside : place < length ss
  pub same : get_or ss place s ≡ s
  pub passes : p s ≡ true

pub found : (p : Phdr → Bool) (ss : List Phdr) (s : Phdr) → find p ss ≡ Some s → IsFound p ss s
found p [] s e = cc
found p (t ∷ ss) s e = go (p t) refl (λ more. found p ss s more)
  where
    go : (x : Bool) → p t ≡ x → (find p ss ≡ Some s → IsFound p ss s) → IsFound p (t ∷ ss) s
    go true is rest =
        let both : Some t ≡ Some s = rw is at e in
        let equal : t ≡ s = cc in
        record { place = 0; inside = omega arith; same = equal; passes = rw equal at is }
    go false is rest =
        let more = rest (rw is at e) in
        record { place = suc more.place; inside = omega (arith, more.inside); same = more.same; passes = more.passes }

-- one that is found for an address is found for each that it covers
pub found_there : (a p : ℕ) (ss : List Phdr) (s : Phdr) → AllPairs CoverNoByte ss → find (covers p) ss ≡ Some s → covers a s ≡ true → find (covers a) ss ≡ Some s
found_there a p ss s apart e is =
    let one = found (covers p) ss s e in
    found_at a ss one.place s apart one.inside (rw one.same is) ∙ ap Some one.same

-- eight bytes are covered by one header where the header that covers the first covers the last
pub covered_is : (a : ℕ) (b : List ℕ) → AllPairs CoverNoByte (segments b)
    → option_map_or (λ s. nat_le (a + 8) (s.vaddr + s.memsz)) (find (covers a) (segments b)) false ≡ is_covered b a
covered_is a b apart = go (find (covers a) (segments b)) refl
  where
    ss : List Phdr
    ss = segments b

    long : Phdr → Bool
    long s = is_load s && (nat_le s.vaddr a && nat_le (a + 8) (s.vaddr + s.memsz))

    -- each that covers the eight bytes is the first
    first : (k : ℕ) (d : Phdr) → k < length (segments b) → long (get_or (segments b) k d) ≡ true
        → (find (covers a) (segments b) ≡ Some (get_or (segments b) k d)) × (nat_le (a + 8) ((get_or (segments b) k d).vaddr + (get_or (segments b) k d).memsz) ≡ true)
    first k d h is =
        let s = get_or (segments b) k d in
        let x = and_parts (is_load s) (nat_le s.vaddr a && nat_le (a + 8) (s.vaddr + s.memsz)) is in
        let y = and_parts (nat_le s.vaddr a) (nat_le (a + 8) (s.vaddr + s.memsz)) x.1 in
        let low = leb-true s.vaddr a y.0 in
        let high = leb-true (a + 8) (s.vaddr + s.memsz) y.1 in
        (found_at a (segments b) k d apart h (cover_is a s x.0 low (omega (arith, high))), y.1)

    none : (o : Option Phdr) → find (covers a) (segments b) ≡ o → option_map_or (λ s. nat_le (a + 8) (s.vaddr + s.memsz)) o false ≡ false
        → list_any long (segments b) ≡ false
    none o e short = list_any_none long (segments b) (λ k d h. not_long k d h (long (get_or (segments b) k d)) refl)
      where
        not_long : (k : ℕ) (d : Phdr) → k < length (segments b) → (x : Bool) → long (get_or (segments b) k d) ≡ x → long (get_or (segments b) k d) ≡ false
        not_long k d h false is = is
        not_long k d h true is =
            let one = first k d h is in
            let same : o ≡ Some (get_or (segments b) k d) = sym e ∙ one.0 in
            let bad : nat_le (a + 8) ((get_or (segments b) k d).vaddr + (get_or (segments b) k d).memsz) ≡ false = rw same at short in
            let worse : true ≡ false = sym one.1 ∙ bad in
            cc

    go : (o : Option Phdr) → find (covers a) (segments b) ≡ o → option_map_or (λ s. nat_le (a + 8) (s.vaddr + s.memsz)) (find (covers a) (segments b)) false ≡ is_covered b a
    go None e = rw e (sym (none None e refl))
    go (Some s) e = rw e (with (nat_le (a + 8) (s.vaddr + s.memsz)) refl)
      where
        with : (x : Bool) → nat_le (a + 8) (s.vaddr + s.memsz) ≡ x → nat_le (a + 8) (s.vaddr + s.memsz) ≡ is_covered b a
        with false is = is ∙ sym (none (Some s) e is)
        with true is =
            let one = found (covers a) (segments b) s e in
            let c = cover_parts a s one.passes in
            let all : long s ≡ true = rw (c.load, le-leb s.vaddr a c.starts, is) refl in
            is ∙ sym (list_any_at long (segments b) one.place s one.inside (rw one.same all))
