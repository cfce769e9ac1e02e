-- What the members of an object have where its texts have P, and what is read of them in steps.
use Rattle.std.proofs.Common.{List, Option, Some, None, Result, Ok, Err, ℕ}
use Rattle.std.proofs.Common.{Ordering, Less, Equal, Greater}
use Rattle.std.specs.Prelude.{⊤}
use Rattle.std.specs.Cmp.Lexicographic.{slice_cmp}
use Rattle.std.specs.Option.{option_or}
use Rattle.std.specs.Ordering.{match_ordering, nat_cmp}
use Rattle.serde_json.specs.Data.{Data, null, boolean, number, string, array, object, Members, no_members, member}
use Rattle.serde_json.specs.Find.{get, get_member, as_str, as_array}
use Rattle.keyset_json.specs.declared.member.Member.{Member}
use Rattle.keyset_json.specs.declared.member.Path.{Path}
use Rattle.keyset_json.specs.Members.{name_of, field_name_of, unless_null, member_of}
use Rattle.keyset_json.specs.Reading.{◌>>=◌, or_at, given, field, object_of}
use Rattle.keyset_json.proofs.TextLemmas.{Holds, ItemsHold, MembersHold, IfThere}

-- ---- the texts of members

module _ (P : List ℕ → Type 0) where
  pick_all : (o : Ordering) (a b c : Option Data) → IfThere (Holds P) a → IfThere (Holds P) b → IfThere (Holds P) c → IfThere (Holds P) (match_ordering o a b c)
  pick_all Less a b c ha hb hc = ha
  pick_all Equal a b c ha hb hc = hb
  pick_all Greater a b c ha hb hc = hc

  member_all : (k : List ℕ) (ms : Members) → MembersHold P ms → IfThere (Holds P) (get_member k ms)
  member_all k no_members h = tt
  member_all k (member l e ms) h = pick_all (slice_cmp nat_cmp k l) _ (Some e) _ (member_all k ms h.1) h.0 (member_all k ms h.1)

  get_all : (k : List ℕ) (d : Data) → Holds P d → IfThere (Holds P) (get k d)
  get_all k null h = tt
  get_all k (boolean b) h = tt
  get_all k (number m) h = tt
  get_all k (string s) h = tt
  get_all k (array ds) h = tt
  get_all k (object ms) h = member_all k ms h

  or_all : (a b : Option Data) → IfThere (Holds P) a → IfThere (Holds P) b → IfThere (Holds P) (option_or a b)
  or_all None b ha hb = hb
  or_all (Some d) b ha hb = ha

  null_all : (o : Option Data) → IfThere (Holds P) o → IfThere (Holds P) (unless_null o)
  null_all None h = tt
  null_all (Some null) h = tt
  null_all (Some (boolean b)) h = h
  null_all (Some (number m)) h = h
  null_all (Some (string s)) h = h
  null_all (Some (array ds)) h = h
  null_all (Some (object ms)) h = h

  found_all : (m : Member) (d : Data) → Holds P d → IfThere (Holds P) (member_of m d)
  unfolding member_of
  found_all m d h = null_all _ (or_all _ _ (get_all (name_of m) d h) (get_all (field_name_of m) d h))

  pub object_all : (d : Data) → Holds P d → IfThere (Holds P) (object_of d)
  object_all null h = tt
  object_all (boolean b) h = tt
  object_all (number m) h = tt
  object_all (string s) h = tt
  object_all (array ds) h = tt
  object_all (object ms) h = h

  pub str_all : (d : Data) → Holds P d → IfThere P (as_str d)
  str_all null h = tt
  str_all (boolean b) h = tt
  str_all (number m) h = tt
  str_all (string s) h = h
  str_all (array ds) h = tt
  str_all (object ms) h = tt

  pub array_all : (d : Data) → Holds P d → IfThere (ItemsHold P) (as_array d)
  array_all null h = tt
  array_all (boolean b) h = tt
  array_all (number m) h = tt
  array_all (string s) h = tt
  array_all (array ds) h = h
  array_all (object ms) h = tt

-- ---- steps

abbrev pub IfRead : {A : Type 0} → (A → Type 0) → Result A Path → Type 0
IfRead P (Ok a) = P a
IfRead P (Err p) = ⊤

pub at_all : {A : Type 0} (Q : A → Type 0) (path : Path) (o : Option A) → IfThere Q o → IfRead Q (or_at path o)
at_all Q path None h = tt
at_all Q path (Some a) h = h

pub field_all : {A : Type 0} (P : List ℕ → Type 0) (Q : A → Type 0) (form : Data → Option A) (missing : A) (path : Path) (d : Data) → Q missing
    → ((e : Data) → Holds P e → IfThere Q (form e)) → Holds P d → IfRead Q (field form missing path d)
field_all P Q form missing path d none some h = given_all (member_of path.member d) (found_all P path.member d h)
  where
    given_all : (o : Option Data) → IfThere (Holds P) o → IfRead Q (given form missing path o)
    given_all None x = none
    given_all (Some e) x = at_all Q path (form e) (some e x)

pub next_read : {A B : Type 0} (Q : A → Type 0) (R : B → Type 0) (read : Result A Path) (next : A → Result B Path) → IfRead Q read → ((a : A) → Q a → IfRead R (next a))
    → IfRead R (read >>= next)
next_read Q R (Ok a) next h then' = then' a h
next_read Q R (Err p) next h then' = tt

pub any_read : {A : Type 0} (read : Result A Path) → IfRead (λ _. ⊤) read
any_read (Ok a) = tt
any_read (Err p) = tt
