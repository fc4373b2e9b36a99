-- Walks, by the inodes.
use Rattle.std.proofs.Common.{◌≡◌, ℕ, true, false, List, [], ◌∷◌, ◌++◌, Option, None, Some, refl, sym, ap, ◌∙◌}
use Rattle.std.specs.Prelude.{option_and_then}
use Rattle.file_tree.specs.Tree.{Tree, file, dir, look}
use Rattle.file_tree.specs.Apply.{Found, Refused, found_or, walk_from, walk}
use Rattle.file_tree.specs.declared.reply.Reply.{Reply}
use Rattle.file_tree.specs.declared.reply.Reply.TheVariants.{NotFound, NotDir}
use Rattle.image_model.specs.Flat.{Path, Thing, AFile, ADir, thing_in, tree_at, thing_at, thing_from}
use Rattle.image_model.specs.Owners.{is_dinode}
use Rattle.image_model.specs.Stands.{flat_of}
use Rattle.image_model.proofs.Held.{none_some, some_same}
use Rattle.image_changes.specs.Instances.{is_directory_at}
use Rattle.image_changes.specs.Walks.{FindsIt, WalksFind, WalksEnd, PathsEnd}
use Rattle.image_changes.proofs.FlatPaths.{after_some, follow-append, thing_there}
use Rattle.image_changes.proofs.Laid.{follow_dinode}
use Rattle.image_changes.proofs.Targets.{tree_below, below_is_tree}
use Rattle.image_changes.proofs.Nodes.{dir_thing, file_thing}

-- where a tree stands at a path, a walk finds it
walk_finds : (t u : Tree) (path : Path) → tree_at t path ≡ Some u → walk_from (Found t) path ≡ Found u
walk_finds t u [] e = ap Found (some_same e)
walk_finds (file bytes) u (n ∷ path) e = absurd (none_some e)
walk_finds (dir es) u (n ∷ path) e =
    let s = after_some (λ v. tree_at v path) (look es n) u e in
    ap (λ o. walk_from (found_or NotFound o) path) s.1 ∙ walk_finds s.0 u path s.2

-- and goes on from it
walk_on : (t u : Tree) (path rest : Path) → tree_at t path ≡ Some u → walk_from (Found t) (path ++ rest) ≡ walk_from (Found u) rest
walk_on t u [] rest e = ap (λ z. walk_from (Found z) rest) (some_same e)
walk_on (file bytes) u (n ∷ path) rest e = absurd (none_some e)
walk_on (dir es) u (n ∷ path) rest e =
    let s = after_some (λ v. tree_at v path) (look es n) u e in
    ap (λ o. walk_from (found_or NotFound o) (path ++ rest)) s.1 ∙ walk_on s.0 u path rest s.2

-- a refusal stays
refused : (r : Reply) (path : Path) → walk_from (Refused r) path ≡ Refused r
refused r [] = refl
refused r (n ∷ path) = refused r path

there_is : (t : Tree) (path : Path) (x : Thing) → thing_at t path ≡ Some x → (u : Tree) × (tree_at t path ≡ Some u) × (thing_in u ≡ x)
there_is t path x e =
    let s = after_some (λ u. Some (thing_in u)) (tree_at t path) x e in
    (s.0, s.1, some_same s.2)

pub walks_find : WalksFind
walks_find im o l t path a stands at = record {
  tree = here.0;
  walks = walk_finds t here.0 path here.1;
  there = here.1;
  reads = record { tree = below_is_tree t here.0 path stands.reads.tree here.1; same = same };
}
  where
    here : (u : Tree) × (tree_at t path ≡ Some u) × (thing_in u ≡ (flat_of im o a).thing)
    here = there_is t path (flat_of im o a).thing (sym (stands.reads.same path) ∙ thing_there (flat_of im o) l.root a path at)

    same : (q : Path) → thing_from (flat_of im o) a q ≡ thing_at here.0 q
    same q = ap (option_and_then (λ b. Some (flat_of im o b).thing)) (sym (follow-append (flat_of im o) path q l.root a at))
        ∙ stands.reads.same (path ++ q) ∙ ap (option_and_then (λ v. Some (thing_in v))) (tree_below t here.0 path q here.1)

pub walks_end : WalksEnd
walks_end im o l t path a name rest stands at none = (in_dir, in_file)
  where
    found : FindsIt im o t path a
    found = walks_find im o l t path a stands at

    so : is_dinode (o a) ≡ true
    so = follow_dinode im o l stands.laid path l.root a (ap is_dinode stands.laid.root.0) at

    thing : thing_in found.tree ≡ (flat_of im o a).thing
    thing = some_same (sym (found.reads.same []))

    nowhere : thing_at found.tree (name ∷ []) ≡ None
    nowhere = sym (found.reads.same (name ∷ [])) ∙ ap (option_and_then (λ b. Some (flat_of im o b).thing)) (ap (option_and_then (λ b. Some b)) none)

    not_found : (u : Tree) → thing_in u ≡ ADir → thing_at u (name ∷ []) ≡ None → walk_from (Found u) (name ∷ rest) ≡ Refused NotFound
    not_found (file bytes) e f = cc
    not_found (dir es) e f = each (look es name) f
      where
        each : (x : Option Tree) → option_and_then (λ u. Some (thing_in u)) (option_and_then (λ u. tree_at u []) x) ≡ None → walk_from (found_or NotFound x) rest ≡ Refused NotFound
        each None f = refused NotFound rest
        each (Some v) f = cc

    no_dir : (u : Tree) {bytes : List ℕ} → thing_in u ≡ AFile bytes → walk_from (Found u) (name ∷ rest) ≡ Refused NotDir
    no_dir (file b) e = refused NotDir rest
    no_dir (dir es) e = cc

    in_dir : is_directory_at im o a ≡ true → walk t (path ++ (name ∷ rest)) ≡ Refused NotFound
    in_dir is = walk_on t found.tree path (name ∷ rest) found.there ∙ not_found found.tree (thing ∙ dir_thing im o a so is) nowhere

    in_file : is_directory_at im o a ≡ false → walk t (path ++ (name ∷ rest)) ≡ Refused NotDir
    in_file is = walk_on t found.tree path (name ∷ rest) found.there ∙ no_dir found.tree (thing ∙ file_thing im o a so is)

pub paths_end : PathsEnd
paths_end name [] = refl
paths_end name (m ∷ rest) = ap (λ z. name ∷ z) (paths_end m rest)
