-- Examples, computed: sessions over the one AES-GCM key of 16 bytes 0 that has the id 16909060.
use Rattle.std.proofs.Common.{◌≡◌, refl, ℕ, true, false, List, [], ◌∷◌, ◌++◌, replicate, codes, None}
use Rattle.key_msgs.specs.KeyTypes.{type_of_url}
use Rattle.key_msgs.specs.Reading.{key_of, plain}
use Rattle.key_msgs.specs.Writing.{plain_written}
use Rattle.proto_wire.specs.Written.{groups_of}
use Rattle.tink_spec.specs.Varint.{number_front, varint_front}
use Rattle.tink_spec.specs.Wire.{cut_within, field_front, payload_front}
use Rattle.key_msgs.specs.Templates.{row_named}
use Rattle.keyset_model.specs.Keyset.{Keys, first_some, when}
use Rattle.managers.specs.Standard.{standard_table}
use Rattle.random_draws.specs.Slices.{Slice, Id, Iv, Key, slices, slices_from, fills, new_fills, placed}
use Rattle.tinkey_cmds.specs.Edits.{Disable, Rotate, changed, effect_of, full_or_mixed, new_id, of_named, refusal_of}
use Rattle.tinkey_session.specs.Lines.{Line, Bad, Edit, Seal}
use Rattle.tinkey_session.specs.Saving.{no_form, resolved, with_saved_only}
use Rattle.tinkey_session.specs.Serving.{serve}
use Rattle.tinkey_session.specs.Session.{lines_by}
use Rattle.tinkey_session.specs.declared.reply.LineRefusal.TheVariants.{BadLine}

abbrev url : List ℕ
url = codes "type.googleapis.com/google.crypto.tink.AesGcmKey"

abbrev keys : Keys
keys = record {
  primary = 16909060;
  records = record { id = 16909060; status = 1; prefix = 1; url = url; value = 26 ∷ 16 ∷ replicate 16 0; material = 1 } ∷ [];
}

abbrev rotates : Line
rotates = Edit (Rotate (codes "AES128_GCM"))

abbrev draw : ℕ → ℕ → ℕ → Slice
draw line place size = record { line = line; purpose = Key; place = place; size = size }

abbrev iv : ℕ → ℕ → Slice
iv line place = record { line = line; purpose = Iv; place = place; size = 12 }

abbrev try : ℕ → ℕ → Slice
try line place = record { line = line; purpose = Id; place = place; size = 4 }

-- The first line's first try, of four bytes 0, is no id. The last line's random bytes are too few.
three_lines : slices standard_table keys (rotates ∷ Bad BadLine ∷ rotates ∷ Edit (Disable 8) ∷ rotates ∷ []) (replicate 4 0 ++ 10 ∷ 11 ∷ 12 ∷ 13 ∷ replicate 16 0 ++ 20 ∷ 11 ∷ 12 ∷ 13 ∷ replicate 19 7)
    ≡ try 0 0 ∷ try 0 4 ∷ draw 0 8 16 ∷ try 2 24 ∷ draw 2 28 16 ∷ []
unfolding slices_from placed fills new_fills serve row_named type_of_url first_some when of_named full_or_mixed refusal_of effect_of new_id changed
three_lines = refl

-- a sealing between two edits
seals_between : slices standard_table keys (Seal [] [] ∷ rotates ∷ Seal [] [] ∷ []) (replicate 12 1 ++ 10 ∷ 11 ∷ 12 ∷ 13 ∷ replicate 16 0 ++ replicate 12 2)
    ≡ iv 0 0 ∷ try 1 12 ∷ draw 1 16 16 ∷ iv 2 32 ∷ []
unfolding slices_from placed fills new_fills serve row_named type_of_url first_some when of_named full_or_mixed refusal_of effect_of new_id changed key_of cut_within field_front number_front varint_front payload_front plain plain_written groups_of
seals_between = refl

-- In a session that seals only what is saved the sealing after the edit is refused, and draws nothing.
refuses_unsaved : slices standard_table keys (lines_by standard_table (resolved (with_saved_only true no_form) (λ before name. None)) [] false keys (Seal [] [] ∷ rotates ∷ Seal [] [] ∷ []) (replicate 12 1 ++ 10 ∷ 11 ∷ 12 ∷ 13 ∷ replicate 16 0 ++ replicate 12 2)) (replicate 12 1 ++ 10 ∷ 11 ∷ 12 ∷ 13 ∷ replicate 16 0 ++ replicate 12 2)
    ≡ iv 0 0 ∷ try 1 12 ∷ draw 1 16 16 ∷ []
unfolding lines_by slices_from placed fills new_fills serve row_named type_of_url first_some when of_named full_or_mixed refusal_of effect_of new_id changed key_of cut_within field_front number_front varint_front payload_front plain plain_written groups_of
refuses_unsaved = refl
