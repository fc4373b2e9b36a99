-- Entries in a row.
use Rattle.std.proofs.Common.{◌≡◌, ℕ, zero, suc, ◌+◌, ◌<◌, ◌≤◌, List, [], ◌∷◌, ◌++◌, length, take, get_or, Some, refl, sym, ap, ◌∙◌, arith}
use Rattle.std.proofs.lemmas.List.{take_more}
use Rattle.std.specs.Prelude.{insert, remove, slice_set}
use Rattle.file_tree.specs.Tree.{Entries, dir, none, entry, look, set, without, names_in, count_in, node_count, entry_count}
use Rattle.file_tree.specs.Apply.{Found}
use Rattle.file_tree.specs.Walks.{empty_refusal}
use Rattle.file_tree.specs.declared.reply.Reply.TheVariants as reply
use Rattle.file_tree.specs.Held.{entries_held, IsPlace, IsEntryAt}
use Rattle.file_tree.specs.declared.tree.Entry.{Entry}
use Rattle.file_tree.proofs.MapLaws.{same_order}

abbrev pub joined : Entries → Entries → Entries
joined none fs = fs
joined (entry n t es) fs = entry n t (joined es fs)

pub entries_held-append : (xs ys : List Entry) → entries_held (xs ++ ys) ≡ joined (entries_held xs) (entries_held ys)
entries_held-append [] ys = refl
entries_held-append (x ∷ xs) ys = ap (entry x.name x.tree) (entries_held-append xs ys)

-- no entry has more nodes than all of them
pub below_all : (xs : List Entry) (i : ℕ) (d : Entry) → i < length xs → node_count (get_or xs i d).tree ≤ entry_count (entries_held xs)
below_all [] i d below = absurd (omega arith)
below_all (x ∷ xs) zero d below = omega arith
below_all (x ∷ xs) (suc i) d below = omega (arith, below_all xs i d (omega arith))

-- one more entry that equals the next
pub held_more : (all xs : List Entry) (i : ℕ) (e d : Entry) → i < length xs → entries_held all ≡ entries_held (take i xs) → e.name ≡ (get_or xs i d).name → e.tree ≡ (get_or xs i d).tree
    → entries_held (all ++ e ∷ []) ≡ entries_held (take (i + 1) xs)
held_more all xs i e d below same name tree =
    let last : (xs : List Entry) → entries_held (xs ++ e ∷ []) ≡ joined (entries_held xs) (entry e.name e.tree none) = λ xs. entries_held-append xs (e ∷ []) in
    entries_held-append all (e ∷ []) ∙ (λ k. joined (same k) (entry (name k) (tree k) none))
    ∙ sym (entries_held-append (take i xs) (get_or xs i d ∷ [])) ∙ ap entries_held (sym (take_more xs i d below))

-- an entry put at its place
pub held_put : (es : List Entry) (place : ℕ) (e : Entry) → IsPlace es place e.name → entries_held (insert es place e) ≡ set (entries_held es) e.name e.tree
held_put [] zero e here = refl
held_put [] (suc place) e here = absurd here
held_put (f ∷ es) zero e here = rw here refl
held_put (f ∷ es) (suc place) e here = rw here.0 (ap (entry f.name f.tree) (held_put es place e here.1))

-- ---- the entry that has a name

pub look_at : (es : List Entry) (i : ℕ) (n : List ℕ) (d : Entry) → IsEntryAt es i n → look (entries_held es) n ≡ Some (get_or es i d).tree
look_at [] i n d here = absurd here
look_at (e ∷ es) zero n d here = rw here refl
look_at (e ∷ es) (suc i) n d here = rw here.0 (look_at es i n d here.1)

-- set to the tree that it has, the directory is the same
pub held_back : (es : List Entry) (i : ℕ) (n : List ℕ) (d : Entry) → IsEntryAt es i n → set (entries_held es) n (get_or es i d).tree ≡ entries_held es
held_back [] i n d here = absurd here
held_back (e ∷ es) zero n d here = rw here (ap (λ m. entry m e.tree (entries_held es)) (same_order n e.name here))
held_back (e ∷ es) (suc i) n d here = rw here.0 (ap (entry e.name e.tree) (held_back es i n d here.1))

-- set to another one
pub held_set : (es : List Entry) (i : ℕ) (n : List ℕ) (f : Entry) → f.name ≡ n → IsEntryAt es i n → entries_held (slice_set es i f) ≡ set (entries_held es) n f.tree
held_set [] i n f same here = absurd here
held_set (e ∷ es) zero n f same here = rw here (ap (λ m. entry m f.tree (entries_held es)) same)
held_set (e ∷ es) (suc i) n f same here = rw here.0 (ap (entry e.name e.tree) (held_set es i n f same here.1))

-- taken out
pub held_removed : (es : List Entry) (i : ℕ) (n : List ℕ) → IsEntryAt es i n → entries_held (remove es i) ≡ without (entries_held es) n
held_removed [] i n here = absurd here
held_removed (e ∷ es) zero n here = rw here refl
held_removed (e ∷ es) (suc i) n here = rw here.0 (ap (entry e.name e.tree) (held_removed es i n here.1))

pub name_at : (es : List Entry) (i : ℕ) (n : List ℕ) (d : Entry) → IsEntryAt es i n → (get_or es i d).name ≡ n
name_at [] i n d here = absurd here
name_at (e ∷ es) zero n d here = sym (same_order n e.name here)
name_at (e ∷ es) (suc i) n d here = name_at es i n d here.1

-- ---- what the entries say of the directory

pub count_held : (es : List Entry) → length es ≡ count_in (entries_held es)
count_held [] = refl
count_held (e ∷ es) = omega (arith, count_held es)

pub names_held-append : (es : List Entry) (e : Entry) → names_in (entries_held (es ++ e ∷ [])) ≡ names_in (entries_held es) ++ e.name ∷ []
names_held-append [] e = refl
names_held-append (f ∷ es) e = ap (λ ns. f.name ∷ ns) (names_held-append es e)

pub names_refuse : (es : List Entry) → 1 ≤ length es → Some reply.NotEmpty ≡ empty_refusal (Found (dir (entries_held es)))
names_refuse [] some = absurd (omega arith)
names_refuse (e ∷ es) some = refl
