use Rattle.std.proofs.Common.{refl}
use Rattle.key_msgs.specs.Reading.{plain}
use Rattle.key_msgs.proofs.ReadingLemmas.{wire_handed_on, fields_handed_on}
use Rattle.key_msgs.proofs.reading.read_plain.Goals as goal

pub returns-in_err-version : goal.returns-in_err-version
unfolding plain
returns-in_err-version c =
    let source = c.args.source.now in
    wire_handed_on _ _ _ _ c.from_residual.ensures.1 (c.in_err-version.ensures source) (λ is. rw is refl)

pub returns-in_err-params : goal.returns-in_err-params
unfolding plain
returns-in_err-params c =
    let source = c.args.source.now in
    fields_handed_on source _ _ _ _ c.from_residual-in_err-params.ensures.1 c.in_err-params.ensures.merged (λ at is. rw (c.in_ok-version.ensures source, is) refl)

pub returns-in_err-iv_size : goal.returns-in_err-iv_size
unfolding plain
returns-in_err-iv_size c =
    let source = c.args.source.now in
    wire_handed_on _ _ _ _ c.from_residual-in_err-iv_size.ensures.1 (c.in_err-iv_size.ensures source) (λ is. rw (c.in_ok-version.ensures source, c.in_ok-params.ensures.merged, is) refl)

pub returns-in_err-segment : goal.returns-in_err-segment
unfolding plain
returns-in_err-segment c =
    let source = c.args.source.now in
    wire_handed_on _ _ _ _ c.from_residual-in_err-segment.ensures.1 (c.in_err-segment.ensures source) (λ is. rw (c.in_ok-version.ensures source, c.in_ok-params.ensures.merged, c.in_ok-iv_size.ensures source, is) refl)

pub returns-in_err-derived : goal.returns-in_err-derived
unfolding plain
returns-in_err-derived c =
    let source = c.args.source.now in
    wire_handed_on _ _ _ _ c.from_residual-in_err-derived.ensures.1 (c.in_err-derived.ensures source) (λ is. rw (c.in_ok-version.ensures source, c.in_ok-params.ensures.merged, c.in_ok-iv_size.ensures source, c.in_ok-segment.ensures source, is) refl)

pub returns-in_err-hash : goal.returns-in_err-hash
unfolding plain
returns-in_err-hash c =
    let source = c.args.source.now in
    wire_handed_on _ _ _ _ c.from_residual-in_err-hash.ensures.1 (c.in_err-hash.ensures source) (λ is. rw (c.in_ok-version.ensures source, c.in_ok-params.ensures.merged, c.in_ok-iv_size.ensures source, c.in_ok-segment.ensures source, c.in_ok-derived.ensures source, is) refl)

pub returns-in_err-tag_size : goal.returns-in_err-tag_size
unfolding plain
returns-in_err-tag_size c =
    let source = c.args.source.now in
    wire_handed_on _ _ _ _ c.from_residual-in_err-tag_size.ensures.1 (c.in_err-tag_size.ensures source) (λ is. rw (c.in_ok-version.ensures source, c.in_ok-params.ensures.merged, c.in_ok-iv_size.ensures source, c.in_ok-segment.ensures source, c.in_ok-derived.ensures source, c.in_ok-hash.ensures source, is) refl)

pub returns-in_err-salt_start : goal.returns-in_err-salt_start
unfolding plain
returns-in_err-salt_start c =
    let source = c.args.source.now in
    wire_handed_on _ _ _ _ c.from_residual-in_err-salt_start.ensures.1 (c.in_err-salt_start.ensures source c.in_ok-params.ensures.of_source) (λ is. rw (c.in_ok-version.ensures source, c.in_ok-params.ensures.merged, c.in_ok-iv_size.ensures source, c.in_ok-segment.ensures source, c.in_ok-derived.ensures source, c.in_ok-hash.ensures source, c.in_ok-tag_size.ensures source, is) refl)

pub returns-in_err-hmac_params : goal.returns-in_err-hmac_params
unfolding plain
returns-in_err-hmac_params c =
    let source = c.args.source.now in
    fields_handed_on source _ _ _ _ c.from_residual-in_err-hmac_params.ensures.1 c.in_err-hmac_params.ensures.merged (λ at is. rw (c.in_ok-version.ensures source, c.in_ok-params.ensures.merged, c.in_ok-iv_size.ensures source, c.in_ok-segment.ensures source, c.in_ok-derived.ensures source, c.in_ok-hash.ensures source, c.in_ok-tag_size.ensures source, (c.in_ok-salt_start.ensures source c.in_ok-params.ensures.of_source).2, is) refl)

pub returns-in_err-mac_hash : goal.returns-in_err-mac_hash
unfolding plain
returns-in_err-mac_hash c =
    let source = c.args.source.now in
    wire_handed_on _ _ _ _ c.from_residual-in_err-mac_hash.ensures.1 (c.in_err-mac_hash.ensures source) (λ is. rw (c.in_ok-version.ensures source, c.in_ok-params.ensures.merged, c.in_ok-iv_size.ensures source, c.in_ok-segment.ensures source, c.in_ok-derived.ensures source, c.in_ok-hash.ensures source, c.in_ok-tag_size.ensures source, (c.in_ok-salt_start.ensures source c.in_ok-params.ensures.of_source).2, c.in_ok-hmac_params.ensures.merged, is) refl)

pub returns-in_err-mac_tag_size : goal.returns-in_err-mac_tag_size
unfolding plain
returns-in_err-mac_tag_size c =
    let source = c.args.source.now in
    wire_handed_on _ _ _ _ c.from_residual-in_err-mac_tag_size.ensures.1 (c.in_err-mac_tag_size.ensures source) (λ is. rw (c.in_ok-version.ensures source, c.in_ok-params.ensures.merged, c.in_ok-iv_size.ensures source, c.in_ok-segment.ensures source, c.in_ok-derived.ensures source, c.in_ok-hash.ensures source, c.in_ok-tag_size.ensures source, (c.in_ok-salt_start.ensures source c.in_ok-params.ensures.of_source).2, c.in_ok-hmac_params.ensures.merged, c.in_ok-mac_hash.ensures source, is) refl)

pub returns-in_err-key_start : goal.returns-in_err-key_start
unfolding plain
returns-in_err-key_start c =
    let source = c.args.source.now in
    wire_handed_on _ _ _ _ c.from_residual-in_err-key_start.ensures.1 (c.in_err-key_start.ensures source c.requires.of_source) (λ is. rw (c.in_ok-version.ensures source, c.in_ok-params.ensures.merged, c.in_ok-iv_size.ensures source, c.in_ok-segment.ensures source, c.in_ok-derived.ensures source, c.in_ok-hash.ensures source, c.in_ok-tag_size.ensures source, (c.in_ok-salt_start.ensures source c.in_ok-params.ensures.of_source).2, c.in_ok-hmac_params.ensures.merged, c.in_ok-mac_hash.ensures source, c.in_ok-mac_tag_size.ensures source, is) refl)

pub returns : goal.returns
unfolding plain
returns c =
    let source = c.args.source.now in
    rw (c.in_ok-version.ensures source, c.in_ok-params.ensures.merged, c.in_ok-iv_size.ensures source, c.in_ok-segment.ensures source, c.in_ok-derived.ensures source, c.in_ok-hash.ensures source, c.in_ok-tag_size.ensures source, (c.in_ok-salt_start.ensures source c.in_ok-params.ensures.of_source).2, c.in_ok-hmac_params.ensures.merged, c.in_ok-mac_hash.ensures source, c.in_ok-mac_tag_size.ensures source, (c.in_ok-key_start.ensures source c.requires.of_source).2) refl
