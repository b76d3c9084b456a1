use Rattle.std.proofs.Common.{◌≡◌, ◌≤◌, take}
use Rattle.kl_host.specs.Paths.{folder_of}
use Rattle.kl_host.proofs.paths.last_slash.Given as goal

abbrev pub invariant-loop-at : goal.invariant-loop-at
invariant-loop-at l = (l.last ≤ l.at) × (take l.last l.bytes ≡ folder_of (take l.at l.bytes))
