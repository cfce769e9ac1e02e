-- The names of the templates, written one after another.
use Rattle.std.proofs.Common.{◌≡◌, refl, sym, ap, ◌∙◌, ℕ, ◌+◌, List, [], ◌∷◌, ◌++◌, drop, Some, None, Option, option_map, append_assoc, append-nil, length, length-append, subst, ◌≤◌, arith, inl, inr}
use Rattle.std.specs.Prelude.{Bool, true, false, cond, filter, if◌then◌else◌, slice_get, codes}
use Rattle.std.specs.List.{flat_map}
use Rattle.tink_spec.specs.Outside.{SinkState, Took, TookPrefix}
use Rattle.std.proofs.lemmas.List.{nil_from_length, length-drop}
use Rattle.std.proofs.lemmas.Option.{slice_get_cases, slice_get_within, get_or_from_slice_get}
use Rattle.tinkey_words.proofs.WordLemmas.{rest_of_words}
use Rattle.tink_spec.proofs.Moves.{took_more, took_nothing}
use Rattle.key_msgs.specs.Templates.{Row, templates, seen}
use Rattle.key_msgs.specs.declared.template.Template.{Template}
use Rattle.key_msgs.specs.declared.primitive.Primitive.{Primitive}
use Rattle.tinkey_plans.specs.Commands.{makes_for, template_names}
use Rattle.tinkey_actions.specs.Lines.{line_for}

-- the name of a template, with a newline
abbrev name_line : Row → List ℕ
name_line row = row.name ++ codes "\n"

-- the lines of those that are asked for are the lines of all, where another one has none
asked_lines : (primitive : Option Primitive) (rows : List Row) → flat_map name_line (filter (makes_for primitive) rows) ≡ flat_map (line_for primitive) rows
asked_lines primitive [] = refl
asked_lines primitive (row ∷ rows) = elim (makes_for primitive row) as (λ (b : Bool). flat_map name_line (cond b (row ∷ filter (makes_for primitive) rows) (filter (makes_for primitive) rows)) ≡ (if b then name_line row else []) ++ flat_map (line_for primitive) rows) [
  | true ↦ ap (λ (rest : List ℕ). name_line row ++ rest) (asked_lines primitive rows)
  | false ↦ asked_lines primitive rows
]

-- some lines were written, and those from a row on are still to come
pub record HasNames (primitive : Option Primitive) (old new : SinkState) (row : ℕ) : Type 0 where
  pub written : List ℕ
  pub took : Took old new written
  pub whole : written ++ flat_map (line_for primitive) (drop row templates) ≡ template_names primitive

rest_of_rows : (rows : List Row) (i : ℕ) (row : Row) → slice_get rows i ≡ Some row → drop i rows ≡ row ∷ drop (i + 1) rows
rest_of_rows rows i row there = rest_of_words rows i row (slice_get_within rows i row there) (sym (get_or_from_slice_get rows i row row there))

-- the lines from a row on
names_from : (primitive : Option Primitive) (i : ℕ) (template : Template) (t : Option Template) → t ≡ Some template → option_map seen t ≡ slice_get templates i → flat_map (line_for primitive) (drop i templates) ≡ line_for primitive (seen template) ++ flat_map (line_for primitive) (drop (i + 1) templates)
names_from primitive i template t is row = ap (flat_map (line_for primitive)) (rest_of_rows templates i (seen template) (sym row ∙ ap (option_map seen) is))

-- bytes whose first were taken, behind some that were taken before
prefix_later : (old mid new : SinkState) (before piece more whole : List ℕ) → Took old mid before → TookPrefix mid new piece → before ++ (piece ++ more) ≡ whole → TookPrefix old new whole
prefix_later old mid new before piece more whole took front is = record {
  front = before ++ front.front;
  rest = front.rest ++ more;
  some = rw length-append (omega (arith, front.some));
  whole = sym (rw (sym is, sym front.whole) (simp append_assoc));
  took = took_more _ _ _ _ _ took front.took;
}

-- the line of one that is asked for, and of another one
pub line_there : (primitive : Option Primitive) (row : Row) (name : List ℕ) → makes_for primitive row ≡ true → name ≡ row.name → name ++ codes "\n" ≡ line_for primitive row
line_there primitive row name makes is = ap (λ (n : List ℕ). n ++ codes "\n") is ∙ ap (λ (b : Bool). if b then row.name ++ codes "\n" else []) (sym makes)

pub line_none : (primitive : Option Primitive) (row : Row) (s : SinkState) → makes_for primitive row ≡ false → Took s s (line_for primitive row)
line_none primitive row s makes = subst (λ (b : Bool). Took s s (if b then row.name ++ codes "\n" else [])) (sym makes) (took_nothing s)

pub no_names : (primitive : Option Primitive) (s : SinkState) → HasNames primitive s s 0
unfolding template_names
no_names primitive s = record { written = []; took = took_nothing s; whole = sym (asked_lines primitive templates) }

pub one_more : (primitive : Option Primitive) (old mid new : SinkState) (i : ℕ) (template : Template) (t : Option Template) → t ≡ Some template → option_map seen t ≡ slice_get templates i → HasNames primitive old mid i → Took mid new (line_for primitive (seen template)) → HasNames primitive old new (i + 1)
one_more primitive old mid new i template t is row names took = record {
  written = names.written ++ line_for primitive (seen template);
  took = took_more _ _ _ _ _ names.took took;
  whole = append_assoc names.written (line_for primitive (seen template)) _ ∙ ap (λ (rest : List ℕ). names.written ++ rest) (sym (names_from primitive i template t is row)) ∙ names.whole;
}

pub ends_in_name : (primitive : Option Primitive) (old mid new : SinkState) (i : ℕ) (template : Template) (t : Option Template) → t ≡ Some template → option_map seen t ≡ slice_get templates i → HasNames primitive old mid i → TookPrefix mid new (line_for primitive (seen template)) → TookPrefix old new (template_names primitive)
ends_in_name primitive old mid new i template t is row names front =
    prefix_later old mid new names.written (line_for primitive (seen template)) (flat_map (line_for primitive) (drop (i + 1) templates)) (template_names primitive) names.took front (ap (λ (rest : List ℕ). names.written ++ rest) (sym (names_from primitive i template t is row)) ∙ names.whole)

-- behind the last row
pub all_names : (primitive : Option Primitive) (old new : SinkState) (i : ℕ) → HasNames primitive old new i → length templates ≤ i → Took old new (template_names primitive)
all_names primitive old new i names past = subst (Took old new) (sym (append-nil names.written) ∙ ap (λ (rest : List ℕ). names.written ++ rest) (sym none) ∙ names.whole) names.took
  where
    none : flat_map (line_for primitive) (drop i templates) ≡ []
    none = ap (flat_map (line_for primitive)) (nil_from_length (drop i templates) (omega (arith, length-drop i templates, past)))

-- there are no more rows
pub no_more : (primitive : Option Primitive) (old new : SinkState) (i : ℕ) (t : Option Template) → t ≡ None → option_map seen t ≡ slice_get templates i → HasNames primitive old new i → HasNames primitive old new (i + 1)
no_more primitive old new i t is row names = record { written = names.written; took = names.took; whole = ap (λ (rest : List ℕ). names.written ++ rest) (ap (flat_map (line_for primitive)) (same_rows templates i (sym row ∙ ap (option_map seen) is))) ∙ names.whole }
  where
    same_rows : (rows : List Row) (i : ℕ) → slice_get rows i ≡ None → drop (i + 1) rows ≡ drop i rows
    same_rows rows i none = elim (slice_get_cases rows i).1 [
      | inl found ↦ let clash : None ≡ Some found.0 = sym none ∙ found.2 in cc
      | inr past ↦ nil_from_length (drop (i + 1) rows) (omega (arith, length-drop (i + 1) rows, past.0)) ∙ sym (nil_from_length (drop i rows) (omega (arith, length-drop i rows, past.0)))
    ]
