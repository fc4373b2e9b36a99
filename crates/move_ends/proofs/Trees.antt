-- What the tree answers a call that moves a name.
use Rattle.std.proofs.Common.{◌≡◌, ◌≢◌, ℕ, ◌≤◌, ◌&&◌, Bool, true, false, List, [], ◌∷◌, ◌++◌, length, Option, None, Some, refl, sym, ap, ◌∙◌, arith}
use Rattle.std.proofs.lemmas.Bool.{cond-true, cond-false}
use Rattle.std.proofs.lemmas.Slice.Eq.{bytes_eq-Decides}
use Rattle.std.specs.Str.{bytes_eq}
use Rattle.file_tree.specs.Apply.{Answer, Walked, Found, Refused, apply, found_or, move_from, move_into, move_unless, put_at, refusal_at, refusal_over, refuse, remove_at, rename, step_to, walk, walk_from}
use Rattle.file_tree.specs.Names.{is_same_path, last_of, leads_to, parent_of}
use Rattle.file_tree.specs.Tree.{Tree, Entries, file, dir, none, entry, count_in, look}
use Rattle.file_tree.specs.declared.call.Call.{Call}
use Rattle.file_tree.specs.declared.call.Call.TheVariants as call
use Rattle.file_tree.specs.declared.reply.Reply.{Reply}
use Rattle.file_tree.specs.declared.reply.Reply.TheVariants as reply
use Rattle.image_model.specs.Flat.{ADir, AFile, Path, thing_in}
use Rattle.pair_walks.proofs.Paths.{ends_so}
use Rattle.move_ends.specs.Ends.{IsRenaming, from_path, to_path}

-- ---- paths that lead to one another

both : (a b : Bool) → (a && b) ≡ true → (a ≡ true) × (b ≡ true)
both true b e = (refl, e)
both false b e = cc

pub leads_long : (p q : Path) → leads_to p q ≡ true → length p ≤ length q
leads_long [] q e = omega arith
leads_long (n ∷ p) [] e = cc
leads_long (n ∷ p) (m ∷ q) e =
    let low = leads_long p q (both (bytes_eq n m) (leads_to p q) e).1 in
    omega (arith, low)

leads_back : (p q : Path) → leads_to p q ≡ true → length p ≡ length q → leads_to q p ≡ true
leads_back [] [] e same = refl
leads_back [] (m ∷ q) e same = absurd (omega (arith, same))
leads_back (n ∷ p) [] e same = cc
leads_back (n ∷ p) (m ∷ q) e same =
    let parts = both (bytes_eq n m) (leads_to p q) e in
    let back : bytes_eq m n ≡ true = (bytes_eq-Decides m n).1 (sym ((bytes_eq-Decides n m).0 parts.0)) in
    ap (λ b. b && leads_to q p) back ∙ leads_back p q parts.1 (omega (arith, same))

pub same_long : (p q : Path) → leads_to p q ≡ true → length p ≡ length q → is_same_path p q ≡ true
same_long p q e same = ap (λ b. b && leads_to q p) e ∙ leads_back p q e same

pub other_long : (p q : Path) → length p ≢ length q → is_same_path p q ≡ false
other_long p q other = by (is_same_path p q) refl
  where
    by : (b : Bool) → is_same_path p q ≡ b → b ≡ false
    by false e = refl
    by true e =
        let parts = both (leads_to p q) (leads_to q p) e in
        absurd (other (omega (arith, leads_long p q parts.0, leads_long q p parts.1)))

-- ---- the call

pub is_rename : (c : Call) (t : Tree) → IsRenaming c → apply c t ≡ rename t (from_path c) (to_path c)
is_rename (call.Rename p q) t is = refl
is_rename (call.Create p) t is = absurd is
is_rename (call.Mkdir p) t is = absurd is
is_rename (call.Unlink p) t is = absurd is
is_rename (call.Rmdir p) t is = absurd is
is_rename (call.Read p at count) t is = absurd is
is_rename (call.Dread p at count) t is = absurd is
is_rename (call.Write p at new) t is = absurd is
is_rename (call.Truncate p size) t is = absurd is
is_rename (call.Stat p) t is = absurd is
is_rename (call.List p) t is = absurd is
is_rename call.Sync t is = absurd is

from_root : (t : Tree) (p q : Path) → p ≡ [] → rename t p q ≡ refuse reply.Inside t
from_root t p q e = ap (λ x. rename t x q) e

to_root : (t : Tree) (p q : Path) → p ≢ [] → q ≡ [] → rename t p q ≡ refuse reply.Exists t
to_root t [] q some e = absurd (some refl)
to_root t (n ∷ ns) q some e = ap (λ x. rename t (n ∷ ns) x) e

goes : (t : Tree) (p q : Path) → p ≢ [] → q ≢ [] → rename t p q ≡ move_from (walk t p) t p q
goes t [] q some some' = absurd (some refl)
goes t (n ∷ ns) [] some some' = absurd (some' refl)
goes t (n ∷ ns) (m ∷ ms) some some' = refl

pub of_root : (c : Call) (t : Tree) → IsRenaming c → from_path c ≡ [] → apply c t ≡ refuse reply.Inside t
of_root c t is e = is_rename c t is ∙ from_root t (from_path c) (to_path c) e

pub on_root : (c : Call) (t : Tree) → IsRenaming c → from_path c ≢ [] → to_path c ≡ [] → apply c t ≡ refuse reply.Exists t
on_root c t is some e = is_rename c t is ∙ to_root t (from_path c) (to_path c) some e

-- ---- a walk to a path, by that to all names but the last

goes_on : (w : Walked) (p r : Path) → walk_from w (p ++ r) ≡ walk_from (walk_from w p) r
goes_on w [] r = refl
goes_on w (n ∷ p) r = goes_on (step_to w n) p r

pub by_parent : (t : Tree) (q : Path) → q ≢ [] → walk t q ≡ step_to (walk t (parent_of q)) (last_of q)
by_parent t q some = ap (walk t) (ends_so q some) ∙ goes_on (Found t) (parent_of q) (last_of q ∷ [])

no_directory : (t : Tree) (p q : Path) (u : Tree) (n : List ℕ) (w : Walked) → step_to w n ≡ Refused reply.NotDir → (move_into w t p q u).reply ≡ reply.NotDir
no_directory t p q u n (Refused r) e = told e
  where
    told : Refused r ≡ Refused reply.NotDir → r ≡ reply.NotDir
    told e = cc
no_directory t p q u n (Found (file bytes)) e = refl
no_directory t p q u n (Found (dir es)) e = by (look es n) e
  where
    by : (x : Option Tree) → found_or reply.NotFound x ≡ Refused reply.NotDir → (move_into (Found (dir es)) t p q u).reply ≡ reply.NotDir
    by None e = cc
    by (Some v) e = cc

-- what stands at the path is in the directory
pub look_there : (t : Tree) (q : Path) (es : Entries) (w : Tree) → q ≢ [] → walk t (parent_of q) ≡ Found (dir es) → walk t q ≡ Found w → look es (last_of q) ≡ Some w
look_there t q es w some parent there = by (look es (last_of q)) (sym (by_parent t q some ∙ ap (λ x. step_to x (last_of q)) parent) ∙ there)
  where
    by : (x : Option Tree) → found_or reply.NotFound x ≡ Found w → x ≡ Some w
    by None e = cc
    by (Some u) e = cc

module _ (c : Call) (t : Tree) (is : IsRenaming c) (some : from_path c ≢ []) (some' : to_path c ≢ []) where
  all : apply c t ≡ move_from (walk t (from_path c)) t (from_path c) (to_path c)
  all = is_rename c t is ∙ goes t (from_path c) (to_path c) some some'

  pub first_refused : (r : Reply) → walk t (from_path c) ≡ Refused r → apply c t ≡ refuse r t
  first_refused r e = all ∙ ap (λ w. move_from w t (from_path c) (to_path c)) e

  module _ (u : Tree) (found : walk t (from_path c) ≡ Found u) where
    at_first : apply c t ≡ move_from (Found u) t (from_path c) (to_path c)
    at_first = all ∙ ap (λ w. move_from w t (from_path c) (to_path c)) found

    pub stays : is_same_path (from_path c) (to_path c) ≡ true → apply c t ≡ refuse reply.Ok t
    stays e = at_first ∙ cond-true _ _ _ e

    pub is_inside : is_same_path (from_path c) (to_path c) ≡ false → leads_to (from_path c) (to_path c) ≡ true → apply c t ≡ refuse reply.Inside t
    is_inside e e' = at_first ∙ cond-false _ _ _ e ∙ cond-true _ _ _ e'

    pub elsewhere : leads_to (from_path c) (to_path c) ≡ false → apply c t ≡ move_into (walk t (parent_of (to_path c))) t (from_path c) (to_path c) u
    elsewhere e = at_first ∙ cond-false _ _ _ (ap (λ b. b && leads_to (to_path c) (from_path c)) e) ∙ cond-false _ _ _ e

    pub no_parent : leads_to (from_path c) (to_path c) ≡ false → (r : Reply) → walk t (parent_of (to_path c)) ≡ Refused r → (apply c t).reply ≡ r
    no_parent e r refused = ap (λ (x : Answer). x.reply) (elsewhere e ∙ ap (λ w. move_into w t (from_path c) (to_path c) u) refused)

    pub file_parent : leads_to (from_path c) (to_path c) ≡ false → walk t (to_path c) ≡ Refused reply.NotDir → (apply c t).reply ≡ reply.NotDir
    file_parent e refused =
        ap (λ (x : Answer). x.reply) (elsewhere e) ∙ no_directory t (from_path c) (to_path c) u (last_of (to_path c)) (walk t (parent_of (to_path c))) (sym (by_parent t (to_path c) some') ∙ refused)

    module _ (e : leads_to (from_path c) (to_path c) ≡ false) (es : Entries) (parent : walk t (parent_of (to_path c)) ≡ Found (dir es)) where
      at_parent : (x : Option Reply) → refusal_at u (look es (last_of (to_path c))) ≡ x → apply c t ≡ move_unless x t (from_path c) (to_path c) u
      at_parent x so = elsewhere e ∙ ap (λ w. move_into w t (from_path c) (to_path c) u) parent ∙ ap (λ y. move_unless y t (from_path c) (to_path c) u) so

      pub over_nothing : look es (last_of (to_path c)) ≡ None → apply c t ≡ record { reply = reply.Ok; tree = put_at (to_path c) u (remove_at (from_path c) t) }
      over_nothing free = at_parent None (ap (refusal_at u) free)

      module _ (w : Tree) (there : walk t (to_path c) ≡ Found w) where
        standing : refusal_at u (look es (last_of (to_path c))) ≡ refusal_over u w
        standing = ap (refusal_at u) (look_there t (to_path c) es w some' parent there)

        pub over_it : refusal_over u w ≡ None → apply c t ≡ record { reply = reply.Ok; tree = put_at (to_path c) u (remove_at (from_path c) t) }
        over_it so = at_parent None (standing ∙ so)

        pub refused_over : (r : Reply) → refusal_over u w ≡ Some r → (apply c t).reply ≡ r
        refused_over r so = ap (λ (x : Answer). x.reply) (at_parent (Some r) (standing ∙ so))

-- ---- one over another

apart : {bytes : List ℕ} → ADir ≡ AFile bytes → ⊥
apart e = cc

pub file_over_directory : (u : Tree) (es : Entries) (bytes : List ℕ) → thing_in u ≡ AFile bytes → refusal_over u (dir es) ≡ Some reply.IsDir
file_over_directory (file b) es bytes e = refl
file_over_directory (dir fs) es bytes e = absurd (apart e)

pub file_over_file : (u : Tree) (old bytes : List ℕ) → thing_in u ≡ AFile bytes → refusal_over u (file old) ≡ None
file_over_file (file b) old bytes e = refl
file_over_file (dir fs) old bytes e = absurd (apart e)

pub directory_over_file : (u : Tree) (old : List ℕ) → thing_in u ≡ ADir → refusal_over u (file old) ≡ Some reply.NotDir
directory_over_file (file b) old e = absurd (apart (sym e))
directory_over_file (dir fs) old e = refl

pub directory_over_full : (u : Tree) (es : Entries) → thing_in u ≡ ADir → count_in es ≢ 0 → refusal_over u (dir es) ≡ Some reply.NotEmpty
directory_over_full (file b) es e some = absurd (apart (sym e))
directory_over_full (dir fs) none e some = absurd (some refl)
directory_over_full (dir fs) (entry n u es) e some = refl

pub directory_over_empty : (u : Tree) (es : Entries) → thing_in u ≡ ADir → count_in es ≡ 0 → refusal_over u (dir es) ≡ None
directory_over_empty (file b) es e empty = absurd (apart (sym e))
directory_over_empty (dir fs) none e empty = refl
directory_over_empty (dir fs) (entry n u es) e empty = absurd (omega (arith, empty))
