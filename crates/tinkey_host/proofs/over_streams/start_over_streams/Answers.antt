-- What the objects tell is what the stated answer is over.
use Rattle.std.proofs.Common.{◌∙◌, ap, option_map}
use Rattle.tinkey_host.proofs.over_streams.start_over_streams.Goals as goal

pub returns : goal.returns
returns g c = record {
  answered = λ told written input output files random stated unsaved.
      let a = c.start.ensures.promised.answer.over told (record { input = input; files = files; random = random }) stated unsaved in
      record {
        status = a.status;
        input = a.input;
        output = a.output.written ∙ ap (option_map _) output;
        files = a.files;
        random = a.random;
      };
}
