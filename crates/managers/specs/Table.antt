-- The table of managers: for each primitive the URLs and schemes of its managers, in order.
--
--   Entry           a manager, as contracts see it
--   Table           the managers, by the primitive for which they were handed in
--   place_of        the first place of a URL among the managers of a primitive
--   scheme_at       the scheme of the manager at that place
--   has_same_url    two managers have one URL
use Rattle.std.specs.Prelude.{ℕ, List, [], ◌∷◌, ◌++◌, map, Option, position, slice_get, Bool, false, ◌||◌}
use Rattle.std.specs.Option.{option_and_then, option_map}
use Rattle.std.specs.Str.{bytes_eq}
use Rattle.key_msgs.specs.declared.primitive.Primitive.{Primitive}
use Rattle.key_msgs.specs.declared.primitive.Primitive.TheVariants.{Aead, Daead, Mac, Prf, Stream}
use Rattle.managers.specs.Schemes.{Scheme}

-- a manager: its type URL and its scheme
pub record Entry : Type 0 where
  pub url : List ℕ
  pub scheme : Scheme

-- the managers, one list for each primitive that has some
pub record Table : Type 0 where
  pub aead : List Entry
  pub daead : List Entry
  pub mac : List Entry
  pub prf : List Entry

-- the managers of a primitive; streams have none
abbrev pub entries_of : Table → Primitive → List Entry
entries_of table Aead = table.aead
entries_of table Daead = table.daead
entries_of table Mac = table.mac
entries_of table Prf = table.prf
entries_of table Stream = []

-- all managers
abbrev pub all_entries : Table → List Entry
all_entries table = table.aead ++ (table.daead ++ (table.mac ++ table.prf))

-- the first place of the URL, compared byte by byte
abbrev pub place_in : List Entry → List ℕ → Option ℕ
place_in entries url = position (λ (e : Entry). bytes_eq e.url url) entries

-- the place among the managers of a primitive
abbrev pub place_of : Table → Primitive → List ℕ → Option ℕ
place_of table primitive url = place_in (entries_of table primitive) url

-- the scheme of the manager at that place
abbrev pub scheme_at : Table → Primitive → List ℕ → Option Scheme
scheme_at table primitive url =
    option_map (λ (e : Entry). e.scheme)
    (option_and_then (slice_get (entries_of table primitive)) (place_of table primitive url))

-- some manager has the URL
abbrev pub has_url : List ℕ → List Entry → Bool
has_url url [] = false
has_url url (e ∷ es) = bytes_eq e.url url || has_url url es

-- the URL of some manager stands again behind it
abbrev pub has_repeat : List Entry → Bool
has_repeat [] = false
has_repeat (e ∷ es) = has_url e.url es || has_repeat es

-- two of all the managers have one URL
abbrev pub has_same_url : Table → Bool
has_same_url table = has_repeat (all_entries table)

-- ---- how lists of managers are seen

-- the entries of managers whose URL and scheme the two functions give
abbrev pub entries_by : {M : Type 0} → (M → List ℕ) → (M → Scheme) → List M → List Entry
entries_by url scheme managers = map (λ m. record { url = url m; scheme = scheme m }) managers

-- a manager of the one list has the URL of one of the other
abbrev pub shares_url : List Entry → List Entry → Bool
shares_url [] ys = false
shares_url (e ∷ es) ys = has_url e.url ys || shares_url es ys
