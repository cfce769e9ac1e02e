-- The listing of a keyset: its primary id, and six lines a record, in the text form of Tink's
-- KeysetInfo. A type URL stands between quotes, with escapes that this text form reads. Its own
-- printers have letters for some bytes, as \n, where here each byte that doesn't print is octal.
use Rattle.std.specs.Prelude.{ℕ, ◌+◌, ◌/◌, ◌%◌, List, [], ◌∷◌, ◌++◌, ◌||◌, ◌==◌, nat_lt, if◌then◌else◌, codes}
use Rattle.std.specs.List.{flat_map}
use Rattle.std.specs.Fmt.{decimal}
use Rattle.keyset_model.specs.declared.record.Record.{Record}
use Rattle.keyset_model.specs.Keyset.{Keys}

-- the names of tink.proto's KeyStatusType; 1 to 3 are asked for
unfoldable pub status_text : ℕ → List ℕ
status_text status =
    if status == 1 then codes "ENABLED"
    else (if status == 2 then codes "DISABLED"
    else codes "DESTROYED")

-- the names of its OutputPrefixType; 1 to 4 are asked for
unfoldable pub prefix_text : ℕ → List ℕ
prefix_text prefix =
    if prefix == 1 then codes "TINK"
    else (if prefix == 2 then codes "LEGACY"
    else (if prefix == 3 then codes "RAW"
    else codes "CRUNCHY"))

-- a byte as three octal digits
abbrev pub octal : ℕ → List ℕ
octal b = (48 + b / 64) ∷ (48 + b / 8 % 8) ∷ (48 + b % 8) ∷ []

-- a quote and a backslash stand behind a backslash, and bytes that don't print are octal
abbrev pub escaped_byte : ℕ → List ℕ
escaped_byte b =
    if b == 34 || b == 92 then 92 ∷ b ∷ []
    else (if nat_lt b 32 || nat_lt 126 b then 92 ∷ octal b
    else b ∷ [])

-- a text as it stands between quotes
abbrev pub escaped : List ℕ → List ℕ
escaped text = flat_map escaped_byte text

-- the six lines of a record
unfoldable pub record_lines : Record → List ℕ
record_lines r =
    codes "key_info {\n  type_url: \"" ++ escaped r.url ++
    codes "\"\n  status: " ++ status_text r.status ++
    codes "\n  key_id: " ++ decimal r.id ++
    codes "\n  output_prefix_type: " ++ prefix_text r.prefix ++
    codes "\n}\n"

-- the whole listing
unfoldable pub info_of : Keys → List ℕ
info_of keys =
    codes "primary_key_id: " ++ decimal keys.primary ++ codes "\n" ++
    flat_map record_lines keys.records
