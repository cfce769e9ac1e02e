use Rattle.tinkey_host.proofs.not_text.report_not_text.Goals as goal

pub returns : goal.returns
returns g c = rw (c.as_slice.ensures, c.not_text_lines.ensures) at c.write_lines.ensures
