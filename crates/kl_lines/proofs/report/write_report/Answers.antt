use Rattle.std.proofs.Common.{◌≡◌, rules}
use Rattle.hex.specs.Hex.{encode_lower}
use Rattle.kl_lines.proofs.report.write_report.Goals as goal

pub returns-clause-writes : goal.returns-clause-writes
returns-clause-writes g c =
    let digest : c.encode_to_slice.new.output ≡ encode_lower c.args.report.now.digest = search rules in
    rw (c.as_bytes.ensures.value, c.format.ensures.text, c.as_bytes-2.ensures.value, c.format-2.ensures.text, c.as_bytes-3.ensures.value, c.format-3.ensures.text, digest)
    at c.write_pieces.ensures.writes
