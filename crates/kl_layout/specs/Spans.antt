-- When a graph is not laid out.
use Rattle.std.specs.Prelude.{ℕ, ◌^◌, ◌≤◌, if◌then◌else◌, nat_lt, Option, Some, None}
use Rattle.kl_base.specs.declared.limits.TheConstants.{SPAN_LIMIT}
use Rattle.kl_model.specs.declared.place.Made.{Made}
use Rattle.kl_layout.specs.declared.fault.LayoutFault.{LayoutFault}
use Rattle.kl_layout.specs.declared.fault.LayoutFault.TheVariants as fault
use Rattle.kl_model.specs.declared.link.LinkFault.{LinkFault}
use Rattle.kl_model.specs.declared.link.LinkFault.TheVariants as link

-- the sizes of the areas that a linker makes, where it makes none
abbrev pub no_made : Made
no_made = record { stubs = 0; tables = 0; got = 0; dynamic = 0 }

-- made areas of at most 2 ^ 56 bytes each
pub record AreSmall (made : Made) : Type 0 where
  pub stubs : made.stubs ≤ 2 ^ 56
  pub tables : made.tables ≤ 2 ^ 56
  pub got : made.got ≤ 2 ^ 56
  pub dynamic : made.dynamic ≤ 2 ^ 56

-- the fault of a span: it passes the limit
abbrev pub layout_fault : ℕ → Option LayoutFault
layout_fault n = if nat_lt SPAN_LIMIT n then Some (fault.Span n SPAN_LIMIT) else None

-- such a fault as the fault of a link
abbrev pub as_link_fault : LayoutFault → LinkFault
as_link_fault (fault.Span n limit) = link.Span n limit
as_link_fault fault.NoMemory = link.NoMemory
