use Rattle.std.proofs.Common.{◌≡◌, ℕ, ◌<◌, List, [], ◌∷◌, ◌++◌, length, take, drop, ap, ◌∙◌, sym, subst, refl, arith, inl, inr, take-append-drop}
use Rattle.std.specs.Str.Pattern.{HasCharAt}
use Rattle.dir_store.specs.Folder.{HasNoSlash, IsFolder}
use Rattle.dir_store.proofs.named.folder_of.Goals as goal

-- a path that was split at a slash
split_there : (path front last : List ℕ) (i j : ℕ) → HasCharAt 47 path i j → front ≡ take i path → last ≡ drop j path → path ≡ front ++ 47 ∷ last
unfolding lib.Utf8.encode
split_there path front last i j at f l =
    let whole : take i path ++ 47 ∷ drop j path ≡ path = ap (λ x. take i path ++ x) (sym at.split) ∙ take-append-drop i path in
    sym whole ∙ ap (λ x. x ++ 47 ∷ drop j path) (sym f) ∙ ap (λ x. front ++ 47 ∷ x) (sym l)

-- nothing stands before that slash
split_first : (path front last : List ℕ) → path ≡ front ++ 47 ∷ last → length front ≡ 0 → path ≡ 47 ∷ last
split_first path [] last is none = is
split_first path (x ∷ xs) last is none = absurd (omega (arith, none))

in_root : (path front last : List ℕ) (i j : ℕ) → HasNoSlash (drop j path) → HasCharAt 47 path i j → front ≡ take i path → last ≡ drop j path → length front ≡ 0 → IsFolder path (47 ∷ [])
in_root path front last i j free at f l none =
    inr (inl (last, subst HasNoSlash (sym l) free, split_first path front last (split_there path front last i j at f l) none, refl))

in_folder : (path front last : List ℕ) (i j : ℕ) → HasNoSlash (drop j path) → HasCharAt 47 path i j → front ≡ take i path → last ≡ drop j path → 0 < length front → IsFolder path front
in_folder path front last i j free at f l some =
    inr (inr (last, subst HasNoSlash (sym l) free, split_there path front last i j at f l, some))

pub returns-in-Some : goal.returns-in-Some
returns-in-Some c =
    let h = c.in-Some.ensures.cases in
    let none : length c.in-Some.folder.now ≡ 0 = grind (arith, c.if-is_empty.true, c.is_empty.ensures) in
    in_root c.args.name.now c.in-Some.folder.now c.in-Some.field-0-1.now h.0 h.1 h.2.0 h.2.1 h.3 h.4 none

pub returns-in-Some-2 : goal.returns-in-Some-2
returns-in-Some-2 c =
    let h = c.in-Some.ensures.cases in
    let some : 0 < length c.in-Some.folder.now = grind (arith, c.if-is_empty.false, c.is_empty.ensures) in
    in_folder c.args.name.now c.in-Some.folder.now c.in-Some.field-0-1.now h.0 h.1 h.2.0 h.2.1 h.3 h.4 some

pub returns-in-None : goal.returns-in-None
returns-in-None c = inl (c.in-None.ensures.cases, refl)
