use Rattle.std.proofs.Common.{◌≡◌, ◌∙◌, sym, ap, Some, None}
use Rattle.std.specs.Option.{option_copied}
use Rattle.std.specs.Path.{path_file_name}
use Rattle.std.proofs.lemmas.Str.Pattern.{starts_text}
use Rattle.tinkey_words.specs.Rows.{temporary, begins_temporary, is_temporary}
use Rattle.tinkey_words.proofs.words.rows.is_temporary.Goals as goal

pub returns-in-Some : goal.returns-in-Some
unfolding is_temporary
returns-in-Some c =
    let named : path_file_name c.args.path.now ≡ Some c.in-Some.last.now = ap path_file_name (sym c.new.ensures) ∙ sym c.file_name.ensures ∙ ap option_copied c.in-Some.is in
    starts_text _ temporary c.in-Some.last.now c.starts_with.ensures.cases ∙ ap begins_temporary (sym named)

pub returns-in-None : goal.returns-in-None
unfolding is_temporary
returns-in-None c =
    let none : path_file_name c.args.path.now ≡ None = ap path_file_name (sym c.new.ensures) ∙ sym c.file_name.ensures ∙ ap option_copied c.in-None.is in
    ap begins_temporary (sym none)
