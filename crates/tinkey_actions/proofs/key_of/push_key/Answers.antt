use Rattle.std.proofs.Common.{◌≡◌, List, ℕ, ◌++◌, append_assoc}
use Rattle.std.specs.Prelude.{codes}
use Rattle.std.specs.Fmt.{decimal}
use Rattle.keyset_model.specs.Listing.{escaped, prefix_text, status_text}
use Rattle.tinkey_plans.specs.KeyOf.{key_line}
use Rattle.tinkey_actions.proofs.key_of.push_key.Goals as goal

nine_behind : (out a b c d e f g h i : List ℕ) → ((((((((out ++ a) ++ b) ++ c) ++ d) ++ e) ++ f) ++ g) ++ h) ++ i ≡ out ++ (a ++ b ++ c ++ d ++ e ++ f ++ g ++ h ++ i)
nine_behind out a b c d e f g h i = simp append_assoc

pub returns : goal.returns
unfolding key_line
returns c =
    let r = c.args.key.now in
    let joined = nine_behind c.args.out.now.items (codes "key_id: ") (decimal r.id) (codes " status: ") (status_text r.status) (codes " output_prefix_type: ") (prefix_text r.prefix) (codes " type_url: \"") (escaped r.url) (codes "\"\n") in
    cc (joined, c.in_ok-extend_from_slice.ensures.items, c.in_ok-extend_from_slice-2.ensures.items, c.in_ok-extend_from_slice-3.ensures.items, c.in_ok-extend_from_slice-4.ensures.items, c.in_ok-extend_from_slice-5.ensures.items, c.in_ok-extend_from_slice-6.ensures.items, c.in_ok-extend_from_slice-7.ensures.items, c.in_ok-push_escaped.ensures, c.in_ok-extend_from_slice-8.ensures.items)
