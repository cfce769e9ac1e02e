-- The plan of each command: its steps, in the order of refusals. What a keyset answers is said apart
-- from plans, in KeyOf, in keyset_model's Listing, in wrapped_prims' Answers and in seal_wrap's Wrapped, Unwrapped and
-- Enveloped.
use Rattle.std.specs.Prelude.{ℕ, List, [], ◌∷◌, ◌++◌, filter, Bool, true, false, Option, Some, None, Result, Ok, Err, codes}
use Rattle.std.specs.List.{flat_map}
use Rattle.key_msgs.specs.KeyTypes.{primitive_of_type}
use Rattle.key_msgs.specs.Templates.{Row, templates, type_made}
use Rattle.key_msgs.specs.declared.primitive.Primitive.{Primitive}
use Rattle.key_msgs.specs.declared.primitive.Primitive.TheVariants.{Aead, Daead, Mac, Prf, Stream}
use Rattle.keyset_model.specs.Keyset.{Keys}
use Rattle.keyset_model.specs.Listing.{info_of}
use Rattle.managers.specs.Table.{Table}
use Rattle.tinkey_cmds.specs.Edits.{first, step}
use Rattle.tinkey_plans.specs.declared.origin.Origin.TheVariants as origins
use Rattle.tinkey_plans.specs.declared.status.Status.TheVariants as status
use Rattle.tinkey_plans.specs.Plan.{Plan, ends, writes}
use Rattle.tinkey_plans.specs.Locks.{opens_lock, opens_new_lock, puts_under, takes_locked, takes_under}
use Rattle.tinkey_plans.specs.Session.{session_plan}
use Rattle.tinkey_plans.specs.Envelopes.{envelope_output}
use Rattle.tinkey_plans.specs.KeyOf.{key_of_output}
use Rattle.tinkey_plans.specs.Help.{help_text, version_text}
use Rattle.tinkey_plans.specs.Ranging.{range_output}
use Rattle.tinkey_plans.specs.SelfTesting.{self_test_output}
use Rattle.tinkey_plans.specs.Steps.{works_out, finds_template, finds_edit, makes_keyset, puts}
use Rattle.tinkey_plans.specs.Streaming.{loads_stream_keys, begins_file, passes_stream}
use Rattle.tinkey_plans.specs.Using.{puts_output, use_output}
use Rattle.tinkey_words.specs.declared.words.misuse.Misuse.{Misuse}
use Rattle.tinkey_words.specs.Words.{KeysetFile, AskedEdit, Asked, Lock, NewLock, create_keyset, edit_keyset, list_keyset, key_of, convert_keyset, list_key_templates, use_keyset, use_envelope, use_stream, open_range, self_test, session, help, version, words_of}

-- create-keyset: a keyset of one new key, and the master that it is put under
abbrev pub create_output : Table → Lock → List ℕ → (Option Keys → Keys → Plan) → Plan
create_output table lock name next =
    finds_template name (λ row.
    opens_lock table lock (λ master.
    makes_keyset (first row) (next master)))

-- an edit: the keyset that it makes of the one that it takes, and the master of both
abbrev pub edit_output : Table → Lock → AskedEdit → KeysetFile → (Option Keys → Keys → Plan) → Plan
edit_output table lock asked in' next =
    finds_edit asked (λ edit.
    opens_lock table lock (λ master.
    takes_under origins.In table master in' (λ keys.
    makes_keyset (step keys edit) (next master))))

-- list-keyset: the listing of a keyset
abbrev pub list_keyset_output : Table → Lock → KeysetFile → (List ℕ → Plan) → Plan
list_keyset_output table lock in' next =
    takes_locked origins.In table lock in' (λ keys. works_out (info_of keys) next)

-- convert-keyset: the keyset that is taken, and the master that it is put under. Both masters are opened
-- before the keyset is taken.
abbrev pub convert_output : Table → Lock → NewLock → KeysetFile → (Option Keys → Keys → Plan) → Plan
convert_output table lock new in' next =
    opens_lock table lock (λ taken.
    opens_new_lock table new taken (λ put.
    takes_under origins.In table taken in' (next put)))

-- the two are one primitive
abbrev pub is_primitive : Primitive → Primitive → Bool
is_primitive Aead Aead = true
is_primitive Daead Daead = true
is_primitive Mac Mac = true
is_primitive Prf Prf = true
is_primitive Stream Stream = true
is_primitive _ _ = false

-- the keys that a template makes have this primitive, where one is given
abbrev pub makes_for : Option Primitive → Row → Bool
makes_for None row = true
makes_for (Some primitive) row = is_primitive (primitive_of_type (type_made row)) primitive

-- list-key-templates: the name of each template, one a line; where a primitive is given, of each whose keys have it
unfoldable pub template_names : Option Primitive → List ℕ
template_names primitive =
    flat_map (λ row. row.name ++ codes "\n") (filter (makes_for primitive) templates)

-- the plan of a command, under the table of the managers handed in
abbrev pub command_plan : Table → Asked → Plan
command_plan table (create_keyset lock template out) =
    create_output table lock template (λ master. puts_under table master out)
command_plan table (edit_keyset lock edit in' out) =
    edit_output table lock edit in' (λ master. puts_under table master out)
command_plan table (list_keyset lock in') = list_keyset_output table lock in' writes
command_plan table (key_of lock name form kind ad) = key_of_output table lock name form kind ad writes
command_plan table (convert_keyset lock new in' out) =
    convert_output table lock new in' (λ master. puts_under table master out)
command_plan table (list_key_templates primitive) = writes (template_names primitive)
command_plan table (use_keyset lock name form work out) =
    use_output table lock name form work (puts_output out)
command_plan table (use_envelope lock name form template work out) =
    envelope_output table lock name form template work (puts out)
command_plan table (use_stream lock name form work ad out) =
    loads_stream_keys table lock name form (λ keys. begins_file out (passes_stream work keys ad out))
command_plan table (open_range lock name form ad range out) =
    range_output table lock name form ad range (puts out)
command_plan table (self_test seed lines) = self_test_output table seed lines writes
command_plan table (session lock name form out saved_only) =
    session_plan table lock name form out saved_only
command_plan table (help topic) = writes (help_text topic)
command_plan table version = writes version_text

-- the command's plan, or the word at fault is the answer, with why it is so; where there is no word, that is told by a status
-- of its own
abbrev pub asked_plan : Table → Result Asked Misuse → List (List ℕ) → Plan
asked_plan table (Ok asked) words = command_plan table asked
asked_plan table (Err misuse) [] = ends status.NoWords tt
asked_plan table (Err misuse) (name ∷ words) = ends (status.Usage misuse) tt

-- the plan of the command that the words ask for
abbrev pub plan_of : Table → List (List ℕ) → Plan
plan_of table words = asked_plan table (words_of words) words
