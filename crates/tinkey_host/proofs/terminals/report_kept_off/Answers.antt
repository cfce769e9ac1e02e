use Rattle.tinkey_host.proofs.terminals.report_kept_off.Goals as goal

pub returns : goal.returns
returns g c = rw c.as_bytes.ensures.value at c.write_lines.ensures
