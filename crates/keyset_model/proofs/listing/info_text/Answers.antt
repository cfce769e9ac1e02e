use Rattle.std.proofs.Common.{◌≡◌, ◌∙◌, List, ℕ, ◌+◌, ◌++◌, ◌∷◌, [], take, ap, sym, arith}
use Rattle.std.specs.Prelude.{Some, slice_get, codes}
use Rattle.std.specs.Fmt.{decimal}
use Rattle.std.specs.List.{flat_map}
use Rattle.std.proofs.lemmas.List.{flat_map_more, take_more, take_all}
use Rattle.std.proofs.lemmas.Option.{get_or_from_slice_get, slice_get_within}
use Rattle.keyset_model.specs.declared.record.Record.{Record}
use Rattle.keyset_model.specs.Listing.{record_lines, info_of}
use Rattle.keyset_model.proofs.listing.info_text.Goals as goal

-- the lines of one record more
lines_more : (front : List ℕ) (records : List Record) (i : ℕ) (r : Record) → slice_get records i ≡ Some r → (front ++ flat_map record_lines (take i records)) ++ record_lines r ≡ front ++ flat_map record_lines (take (i + 1) records)
lines_more front records i r there =
    flat_map_more record_lines front (take i records) r
    ∙ ap (λ (read : List Record). front ++ flat_map record_lines read)
    (ap (λ (x : Record). take i records ++ x ∷ []) (sym (get_or_from_slice_get records i r r there))
    ∙ sym (take_more records i r (slice_get_within records i r there)))

pub loop-i-preserved : goal.loop-i-preserved
loop-i-preserved c =
    let k = c.args.keyset.now in
    let more = lines_more (codes "primary_key_id: " ++ decimal k.primary ++ codes "\n") k.records c.loop-i.i c.record_at.result.now c.record_at.ensures.record_there in
    cc (more, c.in_ok-push_record.ensures)

pub returns : goal.returns
unfolding info_of
returns c =
    let k = c.args.keyset.now in
    let all : take c.loop-i.i k.records ≡ k.records = take_all c.loop-i.i k.records (omega arith) in
    cc (all)
