-- The entries of a directory from a place on.
use Rattle.std.proofs.Common.{◌≡◌, ℕ, zero, suc, ◌+◌, ◌<◌, ◌≤◌, List, [], ◌∷◌, length, get_or, refl, sym, ap, ◌∙◌, arith, add-one}
use Rattle.file_tree.specs.Tree.{Tree, dir, none, entry}
use Rattle.file_tree.specs.Apply.{entries_of}
use Rattle.file_tree.specs.Held.{entries_held}
use Rattle.file_tree.specs.Parts.{entries_from}
use Rattle.file_tree.specs.declared.tree.Entry.{Entry}

-- behind the last there is none
pub held_past : (es : List Entry) (place : ℕ) → length es ≤ place → entries_from place (entries_held es) ≡ none
held_past [] zero past = refl
held_past [] (suc place) past = refl
held_past (e ∷ es) zero past = absurd (omega arith)
held_past (e ∷ es) (suc place) past = held_past es place (omega arith)

-- at a place stands its entry, and those behind it follow
pub held_from : (es : List Entry) (place : ℕ) (d : Entry) → place < length es
    → entries_from place (entries_held es) ≡ entry (get_or es place d).name (get_or es place d).tree (entries_from (suc place) (entries_held es))
held_from [] place d low = absurd (omega arith)
held_from (e ∷ es) zero d low = refl
held_from (e ∷ es) (suc place) d low = held_from es place d (omega arith)

pub none_past : (t : Tree) (es : List Entry) (place : ℕ) → t ≡ dir (entries_held es) → length es ≤ place → entries_from place (entries_of t) ≡ none
none_past t es place is past = ap (λ u. entries_from place (entries_of u)) is ∙ held_past es place past

pub entry_there : (t : Tree) (es : List Entry) (place : ℕ) (d : Entry) → t ≡ dir (entries_held es) → place < length es → d ≡ get_or es place d
    → entries_from place (entries_of t) ≡ entry d.name d.tree (entries_from (place + 1) (entries_of t))
entry_there t es place d is low there =
    ap (λ u. entries_from place (entries_of u)) is ∙ held_from es place d low
    ∙ ap (λ (e : Entry). entry e.name e.tree (entries_from (suc place) (entries_held es))) (sym there)
    ∙ ap (λ u. entry d.name d.tree (entries_from (suc place) (entries_of u))) (sym is)
    ∙ ap (λ k. entry d.name d.tree (entries_from k (entries_of t))) (sym (add-one place))
