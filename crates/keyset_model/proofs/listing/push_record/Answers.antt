use Rattle.std.proofs.Common.{◌≡◌, List, ℕ, ◌++◌, append_assoc}
use Rattle.std.specs.Prelude.{codes}
use Rattle.std.specs.Fmt.{decimal}
use Rattle.keyset_model.specs.Listing.{status_text, prefix_text, escaped, record_lines}
use Rattle.keyset_model.proofs.listing.push_record.Goals as goal

nine_behind : (out a b c d e f g h i : List ℕ) → ((((((((out ++ a) ++ b) ++ c) ++ d) ++ e) ++ f) ++ g) ++ h) ++ i ≡ out ++ (a ++ b ++ c ++ d ++ e ++ f ++ g ++ h ++ i)
nine_behind out a b c d e f g h i = simp append_assoc

pub returns : goal.returns
unfolding record_lines
returns c =
    let r = c.args.key.now in
    let joined = nine_behind c.args.out.now.items (codes "key_info {\n  type_url: \"") (escaped r.url) (codes "\"\n  status: ") (status_text r.status) (codes "\n  key_id: ") (decimal r.id) (codes "\n  output_prefix_type: ") (prefix_text r.prefix) (codes "\n}\n") in
    cc (joined, c.in_ok-extend_from_slice.ensures.items, c.in_ok-extend_from_slice-2.ensures.items, c.in_ok-extend_from_slice-3.ensures.items, c.in_ok-extend_from_slice-4.ensures.items, c.in_ok-extend_from_slice-5.ensures.items, c.in_ok-extend_from_slice-6.ensures.items, c.in_ok-extend_from_slice-7.ensures.items, c.in_ok-push_escaped.ensures, c.in_ok-push_number.ensures)
