use Rattle.std.proofs.Common.{◌≡◌, ◌+◌, ◌≤◌, length, drop, get_or}
use Rattle.kl_model.specs.Laid.{reach}
use Rattle.kl_model.specs.declared.place.Body.{Body}
use Rattle.kl_layout.specs.Once.{AreOnce}
use Rattle.kl_layout.specs.Stops.{IsBody, address_or, body_number, room}
use Rattle.kl_layout.proofs.stops.lay_parts.Given as goal

-- the stops of the parts that are left, and else what is written, are the addresses
abbrev pub invariant-loop-part : goal.invariant-loop-part
invariant-loop-part l = record {
  count : length l.addresses ≡ length l.fn.addresses;
  once : AreOnce (drop l.part-index l.parts);
  small : l.place + room (drop l.part-index l.parts) ≤ l.from + room l.parts;
  stops : (b : Body) → IsBody (length l.fn.addresses) b
      → address_or b (l.base + l.place) (drop l.part-index l.parts) (get_or l.addresses (body_number b) 0) ≡ address_or b (l.base + l.from) l.parts (get_or l.fn.addresses (body_number b) 0);
  at_end : reach (l.base + l.place) (drop l.part-index l.parts) ≡ reach (l.base + l.from) l.parts;
}
