use Rattle.std.proofs.Common.{◌≡◌, length, map, take}
use Rattle.kl_names.proofs.Steps.{occurring_up_to}
use Rattle.kl_sym.specs.Leads.{lead_of}
use Rattle.kl_sym.proofs.leads.input_leads.Given as goal

abbrev pub invariant-loop-symbol : goal.invariant-loop-symbol
invariant-loop-symbol l = record {
  leads : l.leads.items ≡ map (lead_of l.kit l.inputs l.i) (take l.symbol-index l.symbols);
  next : l.next ≡ length (occurring_up_to l.inputs l.i l.symbol-index);
}
