-- A path leads to one inode.
use Rattle.std.proofs.Common.{◌≡◌, ℕ, List, [], ◌∷◌, ◌++◌, refl, sym, ap, ◌∙◌, subst, Some}
use Rattle.file_tree.specs.Names.{parent_of}
use Rattle.glock_names.specs.Views.{Seen, IsView}
use Rattle.call_locks.specs.declared.want.Want.{Want}
use Rattle.directories.proofs.Forms.{some_directory}
use Rattle.directories.proofs.Sound.{says_once}
use Rattle.glock_names.specs.declared.steps.Entry.{Entry}
use Rattle.image_model.specs.Flat.{Path}
use Rattle.image_model.proofs.Held.{some_same}
use Rattle.image_changes.proofs.FlatPaths.{last_name}
use Rattle.path_walks.specs.Walks.{LeadsTo, at_root, by_name, Names}
use Rattle.path_walks.proofs.Lists.{parent_of_next}

pub no_end : {A : Type 0} (front : List A) (x : A) → [] ≡ front ++ x ∷ [] → ⊥
no_end [] x e = cc
no_end (y ∷ front) x e = cc

-- a name of a directory leads to one block
one_child : (v : Seen) (dir b c : ℕ) (name : List ℕ) → IsView v → Names v dir name b → Names v dir name c → b ≡ c
one_child v dir b c name view first second =
    let s = some_directory v dir view in
    let one = first.child s.0 s.1 in
    let other = second.child s.0 s.1 in
    sym one.address ∙ ap (λ (e : Entry). e.addr) (some_same (says_once s.0 name (Some one.entry) (Some other.entry) one.says other.says)) ∙ other.address

-- and so does a path
pub leads_once : (v : Seen) (wants : List Want) (p q : Path) (a b : ℕ) → IsView v → LeadsTo v wants p a → LeadsTo v wants q b → p ≡ q → a ≡ b
leads_once v wants [] [] a b view (at_root held) (at_root held') e = refl
leads_once v wants [] q a b view (at_root held) (by_name front dir b' name leads is_name named inside held') e = absurd (no_end front name e)
leads_once v wants p [] a b view (by_name front dir b' name leads is_name named inside held) (at_root held') e = absurd (no_end front name (sym e))
leads_once v wants p q a b view (by_name front dir a' name leads is_name named inside held) (by_name front' dir' b' name' leads' is_name' named' inside' held') e =
    let same_front : front ≡ front' = sym (parent_of_next front name) ∙ ap parent_of e ∙ parent_of_next front' name' in
    let same_name : name ≡ name' = last_name front front' name name' e in
    let same_dir : dir ≡ dir' = leads_once v wants front front' dir dir' view leads leads' same_front in
    one_child v dir a' b' name view named (subst (λ n. Names v dir n b') (sym same_name) (subst (λ d. Names v d name' b') (sym same_dir) named'))
