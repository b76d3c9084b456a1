use Rattle.std.proofs.Common.{ℕ, ◌≡◌, ◌+◌, ◌<◌, ◌≤◌, length, drop, get_or}
use Rattle.std.specs.Prelude.{All, slice_get}
use Rattle.kl_model.specs.Laid.{reach}
use Rattle.kl_model.specs.declared.place.Body.{Body}
use Rattle.kl_layout.specs.Once.{AreDistinct, AreOnce}
use Rattle.kl_layout.specs.Stops.{IsBody, IsPart, address_or, area_or, body_number, joined, listed, room}
use Rattle.kl_layout.proofs.stops.lay_spreads.Given as goal

-- the stops and the areas of the spreads that are left, and else what is written, are all
abbrev pub invariant-loop-number : goal.invariant-loop-number
invariant-loop-number l = record {
  addresses_count : length l.addresses ≡ length l.fn.addresses;
  areas_count : length l.areas ≡ length l.fn.areas;
  parts : All (IsPart (length l.fn.addresses)) (joined l.lists (drop l.number-index l.numbers));
  once : AreOnce (joined l.lists (drop l.number-index l.numbers));
  apart : AreDistinct (drop l.number-index l.numbers);
  small : l.place + room (joined l.lists (drop l.number-index l.numbers)) ≤ l.from + room (joined l.lists l.numbers);
  stops : (b : Body) → IsBody (length l.fn.addresses) b
      → address_or b (l.base + l.place) (joined l.lists (drop l.number-index l.numbers)) (get_or l.addresses (body_number b) 0)
      ≡ address_or b (l.base + l.from) (joined l.lists l.numbers) (get_or l.fn.addresses (body_number b) 0);
  areas : (n : ℕ) → n < length l.fn.areas
      → area_or n (l.base + l.place) (listed l.lists (drop l.number-index l.numbers)) (slice_get l.areas n) ≡ area_or n (l.base + l.from) (listed l.lists l.numbers) (slice_get l.fn.areas n);
  at_end : reach (l.base + l.place) (joined l.lists (drop l.number-index l.numbers)) ≡ reach (l.base + l.from) (joined l.lists l.numbers);
}
