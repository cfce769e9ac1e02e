-- Edits of a session by computation, over a keyset of one key, AES-GCM of 16 bytes 0 with the id 16909060.
use Rattle.std.proofs.Common.{◌≡◌, refl, ℕ, List, [], ◌∷◌, ◌++◌, replicate, Some, option_map, codes}
use Rattle.key_msgs.specs.KeyTypes.{type_of_url}
use Rattle.key_msgs.specs.Templates.{row_named}
use Rattle.keyset_model.specs.Keyset.{Keys, first_some, when}
use Rattle.keyset_model.specs.declared.record.Record.{Record}
use Rattle.managers.specs.Standard.{standard_table}
use Rattle.tinkey_cmds.specs.Edits.{Add, Rotate, Disable, Delete, changed, effect_of, full_or_mixed, new_id, of_named, refusal_of}
use Rattle.tinkey_cmds.specs.declared.command.EditRefusal.TheVariants.{IdsExhausted, KeyIsPrimary, KeyNotFound, MixedPrimitive}
use Rattle.tinkey_session.specs.Lines.{Line, Edit, Bad}
use Rattle.tinkey_session.specs.Serving.{Served, answered, serve}
use Rattle.tinkey_session.specs.declared.reply.LineRefusal.{LineRefusal}
use Rattle.tinkey_session.specs.declared.reply.LineRefusal.TheVariants.{BadLine, Refused}
use Rattle.tinkey_session.specs.declared.reply.Refusal.TheVariants.{AsymmetricTemplate, Command, UnknownTemplate}
use Rattle.tinkey_session.specs.declared.reply.Reply.{Reply}
use Rattle.tinkey_session.specs.declared.reply.Reply.TheVariants.{Done, NewId, Refuses}

abbrev url : List ℕ
url = codes "type.googleapis.com/google.crypto.tink.AesGcmKey"

abbrev key : ℕ → ℕ → Record
key id status = record { id = id; status = status; prefix = 1; url = url; value = 26 ∷ 16 ∷ replicate 16 0; material = 1 }

abbrev keys : Keys
keys = record { primary = 16909060; records = key 16909060 1 ∷ [] }

-- with one more key, which is primary
abbrev rotated : ℕ → Keys
rotated status = record { primary = 168496141; records = key 16909060 status ∷ key 168496141 1 ∷ [] }

abbrev IsRefused : Keys → Line → (random left : List ℕ) → LineRefusal → Type 0
IsRefused before line random left why = serve standard_table before line random ≡ Some (answered before left (Refuses why))

refused :
    IsRefused keys (Bad BadLine) (1 ∷ []) (1 ∷ []) BadLine
    × IsRefused keys (Edit (Add (codes "AES128_GCN"))) [] [] (Refused UnknownTemplate)
    × IsRefused keys (Edit (Rotate (codes "ECDSA_P256"))) [] [] (Refused AsymmetricTemplate)
    × IsRefused keys (Edit (Add (codes "AES256_SIV"))) (1 ∷ []) (1 ∷ []) (Refused (Command MixedPrimitive))
    × IsRefused (rotated 1) (Edit (Delete 168496141)) [] [] (Refused (Command KeyIsPrimary))
    × IsRefused keys (Edit (Disable 8)) [] [] (Refused (Command KeyNotFound))
unfolding serve row_named type_of_url first_some when of_named full_or_mixed refusal_of
refused = (refl, refl, refl, refl, refl, refl)

abbrev seen : Served → Reply × List ℕ × ℕ
seen s = (s.reply, s.left, s.keys.primary)

-- the new key's id is answered, 20 bytes are drawn, and the new key is primary
accepted :
    (option_map seen (serve standard_table keys (Edit (Rotate (codes "AES128_GCM"))) (10 ∷ 11 ∷ 12 ∷ 13 ∷ replicate 16 0 ++ 7 ∷ []))
    ≡ Some (NewId 168496141, 7 ∷ [], 168496141))
    × (serve standard_table (rotated 1) (Edit (Disable 16909060)) [] ≡ Some (answered (rotated 2) [] Done))
unfolding serve row_named type_of_url first_some when of_named full_or_mixed refusal_of effect_of new_id changed
accepted = (refl, refl)

-- 64 groups of four bytes 0 are drawn, none of which is an id
exhausted : IsRefused keys (Edit (Rotate (codes "AES128_GCM"))) (replicate 257 0) (0 ∷ []) (Refused (Command IdsExhausted))
unfolding serve row_named type_of_url first_some when full_or_mixed refusal_of effect_of new_id
exhausted = refl
