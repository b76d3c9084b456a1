-- A distance of four bytes leads from a stub to its slot.
use Rattle.std.proofs.Common.{ℕ, ◌≡◌, ◌+◌, ◌-◌, ◌<◌, ◌≤◌, ◌^◌, ◌%◌, replicate, arith, true, false, inl, inr}
use Rattle.std.specs.Prelude.{nat_lt}
use Rattle.std.proofs.lemmas.Bool.{cases_lt}
use Rattle.std.proofs.lemmas.Bool.Decides.{nat_tests}
use Rattle.kl_base.specs.declared.limits.TheConstants.{SIZE_LIMIT}
use Rattle.kl_le.specs.Bytes.{num}
use Rattle.kl_model.specs.Reaches.{less, plus, signed_4}
use Rattle.kl_model.specs.Tables.{stub_code}
use Rattle.kl_model.specs.Written.{bytes_of}
use Rattle.kl_model.proofs.ImageBytes.{num-bytes_of}
use Rattle.kl_model.specs.declared.area.TheConstants as area

module _ (stub slot : ℕ) (low : stub < 2 ^ 64) (high : slot < 2 ^ 64) (above : slot < stub + SIZE_LIMIT) (below : stub < slot + SIZE_LIMIT) where
  forward : stub + 6 ≤ slot → plus (plus stub 6) (signed_4 (less (less slot stub) 6 % 2 ^ 32)) ≡ slot
  forward h =
      let d : less (less slot stub) 6 % 2 ^ 32 ≡ slot - (stub + 6) = omega arith in
      let small : nat_lt (slot - (stub + 6)) (2 ^ 31) ≡ true = grind (arith, nat_tests) in
      rw (d, small) (omega arith)

  backward : slot < stub + 6 → plus (plus stub 6) (signed_4 (less (less slot stub) 6 % 2 ^ 32)) ≡ slot
  backward h =
      let d : less (less slot stub) 6 % 2 ^ 32 ≡ 2 ^ 32 - (stub + 6 - slot) = omega arith in
      let large : nat_lt (2 ^ 32 - (stub + 6 - slot)) (2 ^ 31) ≡ false = grind (arith, nat_tests) in
      rw (d, large) (omega arith)

  pub leads : plus (plus stub 6) (signed_4 (num (stub_code stub slot) 2 4)) ≡ slot
  leads =
      let d = less (less slot stub) 6 % 2 ^ 32 in
      let small : d < 256 ^ 4 = omega arith in
      let read : num (stub_code stub slot) 2 4 ≡ d = num-bytes_of (bytes_of 2 area.JUMP) (replicate 10 area.INT3) 4 d small in
      rw read (elim (cases_lt slot (stub + 6)) [ inl a ↦ backward a | inr a ↦ forward a ])
