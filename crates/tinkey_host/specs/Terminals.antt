-- What a command does at terminals, by what its words ask.
--
--   suits_terminal   a terminal may show what the command writes to standard output
--   reads_input      the command reads standard input
--   is_kept_off      a command is refused, since standard output is a terminal that may not show its output
--   waits            a command says that it reads from a terminal
use Rattle.std.specs.Prelude.{ℕ, List, Bool, true, false, ◌&&◌, ◌||◌, not, is_some, is_none, Result, Ok, Err, codes}
use Rattle.tinkey_host.specs.declared.terminals.Terminals.{Terminals}
use Rattle.tinkey_words.specs.declared.words.misuse.Misuse.{Misuse}
use Rattle.tinkey_words.specs.declared.words.rows.Format.{Format}
use Rattle.tinkey_words.specs.declared.words.rows.Format.TheVariants as formats
use Rattle.tinkey_words.specs.declared.words.request.StreamWork.{StreamWork}
use Rattle.tinkey_words.specs.declared.words.request.StreamWork.TheVariants as streams
use Rattle.tinkey_words.specs.Words.{Asked, AskedEnvelope, AskedWork, Lock, NewLock, Output, KeysetFile, as_taken, in_clear, under, create_keyset, edit_keyset, list_keyset, key_of, convert_keyset, list_key_templates, use_keyset, use_envelope, use_stream, open_range, self_test, session, help, version, to_seal, to_open, to_dseal, to_dopen, to_reseal, to_dreseal, to_tag, to_verify, to_derive, to_eseal, to_eopen, to_ereseal, words_of}

-- this form of a keyset is text
abbrev pub is_text : Format → Bool
is_text formats.Json = true
is_text formats.Binary = false

-- A terminal may show an encrypted keyset as JSON. One in clear holds keys, and the binary form isn't text.
abbrev pub shows_keyset : (encrypted : Bool) → KeysetFile → Bool
shows_keyset encrypted place = is_some place.file || (encrypted && is_text place.form)

-- a keyset that is put elsewhere is encrypted there
abbrev pub stays_encrypted : Lock → NewLock → Bool
stays_encrypted lock as_taken = is_some lock
stays_encrypted lock in_clear = false
stays_encrypted lock (under master) = true

-- the work gives what its user sealed before, or nothing; all other work gives random-looking bytes
abbrev pub gives_plaintext : AskedWork → Bool
gives_plaintext (to_open ad) = true
gives_plaintext (to_dopen ad) = true
gives_plaintext (to_verify tag) = true
gives_plaintext (to_seal ad) = false
gives_plaintext (to_dseal ad) = false
gives_plaintext (to_reseal ad) = false
gives_plaintext (to_dreseal ad) = false
gives_plaintext to_tag = false
gives_plaintext (to_derive size) = false

abbrev pub opens_envelope : AskedEnvelope → Bool
opens_envelope (to_eopen ad) = true
opens_envelope (to_eseal ad) = false
opens_envelope to_ereseal = false

abbrev pub opens_stream : StreamWork → Bool
opens_stream streams.Open = true
opens_stream streams.Seal = false
opens_stream streams.Reseal = false

-- bytes go to a file, or are shown in hexadecimal
abbrev pub is_readable : Output → Bool
is_readable out = is_some out.file || out.hex

-- Sealed bytes, tags and derived bytes, unless in hexadecimal, and keysets in clear may not be shown; all else may.
abbrev pub suits_terminal : Asked → Bool
suits_terminal (create_keyset lock template out) = shows_keyset (is_some lock) out
suits_terminal (edit_keyset lock edit in' out) = shows_keyset (is_some lock) out
suits_terminal (convert_keyset lock new in' out) = shows_keyset (stays_encrypted lock new) out
suits_terminal (use_keyset lock keyset form work out) = is_readable out || gives_plaintext work
suits_terminal (use_envelope lock keyset form template work out) = is_some out || opens_envelope work
suits_terminal (use_stream lock keyset form work ad out) = is_some out || opens_stream work
suits_terminal (open_range lock keyset form ad range out) = true
suits_terminal (list_keyset lock in') = true
suits_terminal (key_of lock keyset form kind ad) = true
suits_terminal (list_key_templates primitive) = true
suits_terminal (self_test seed lines) = true
suits_terminal (session lock keyset form out saved_only) = true
suits_terminal (help topic) = true
suits_terminal version = true

abbrev pub reads_input : Asked → Bool
reads_input (edit_keyset lock edit in' out) = is_none in'.file
reads_input (list_keyset lock in') = is_none in'.file
reads_input (convert_keyset lock new in' out) = is_none in'.file
reads_input (key_of lock keyset form kind ad) = true
reads_input (use_keyset lock keyset form work out) = true
reads_input (use_envelope lock keyset form template work out) = true
reads_input (use_stream lock keyset form work ad out) = true
reads_input (session lock keyset form out saved_only) = true
reads_input (create_keyset lock template out) = false
reads_input (list_key_templates primitive) = false
reads_input (open_range lock keyset form ad range out) = false
reads_input (self_test seed lines) = false
reads_input (help topic) = false
reads_input version = false

-- the words ask for something of which this holds
abbrev pub asks : (Asked → Bool) → Result Asked Misuse → Bool
asks holds (Ok asked) = holds asked
asks holds (Err misuse) = false

abbrev pub is_kept_off : Terminals → (words : List (List ℕ)) → Bool
is_kept_off terminals words = terminals.output && asks (λ asked. not (suits_terminal asked)) (words_of words)

abbrev pub waits : Terminals → (words : List (List ℕ)) → Bool
waits terminals words = terminals.input && asks reads_input (words_of words)

-- the lines of a command that is kept off a terminal, and the one of a command that reads from a terminal
abbrev pub kept_off_lines : List ℕ
kept_off_lines =
    codes "tinkey: output is a terminal\ntinkey: this isn't for a screen: give --out FILE, or redirect the output\n"

abbrev pub waiting_line : List ℕ
waiting_line = codes "tinkey: reading from the terminal; Ctrl-D ends the input\n"
