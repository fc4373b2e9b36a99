-- A leaf and the dinode that are put, one after the other.
use Rattle.std.proofs.Common.{◌≡◌, ◌≢◌, ℕ, inl, inr, false, List, length, drop, Some, Ok, sym, ap, ◌∙◌, subst}
use Rattle.std.specs.Cmp.{nat_cmp_total}
use Rattle.std.specs.FinMap.{FinMap, insert, nat_cmp-IsAntisymmetric}
use Rattle.std.specs.Ordering.{nat_cmp}
use Rattle.std.proofs.lemmas.Bool.{cases_eq}
use Rattle.finite_maps.proofs.Keys.{inserted_apart}
use Rattle.drafts.specs.Fates.{Drafted, block_with, seen_in, seen_with}
use Rattle.drafts.specs.declared.fate.Fate.{Fate}
use Rattle.drafts.specs.declared.fate.Fate.TheVariants.{Put}
use Rattle.gfs2_layout.specs.Structures.{dinode_length, dinode_read}
use Rattle.gfs2_layout.specs.Writing.{dinode_put}
use Rattle.gfs2_layout.specs.declared.dinode.Dinode.{Dinode}
use Rattle.glock_names.specs.Views.{Seen, HasBlock}
use Rattle.glock_names.specs.declared.LockName.{LockName}
use Rattle.dinode_tree.specs.Reading.{inode_lock}
use Rattle.linear_dirs.proofs.Rewritten.{seen_at}
use Rattle.hash_dirs.specs.Exchanging.{IsCutPut, IsLeafCut}
use Rattle.hash_dirs.specs.declared.finding.Found.{Found}

pub seen_apart : (v : Seen) (m : FinMap nat_cmp Fate) (b c : ℕ) (lock : LockName) (bytes : List ℕ) → c ≢ b → (seen_with v (insert m b (Put lock false bytes))).block_at c ≡ (seen_with v m).block_at c
seen_apart v m b c lock bytes other = ap (λ fate. block_with fate (v.block_at c)) (inserted_apart nat_cmp_total nat_cmp-IsAntisymmetric m b (Put lock false bytes) c other)

-- a block that is seen is seen where any is put
pub there_still : (v : Seen) (m : FinMap nat_cmp Fate) (b c : ℕ) (lock : LockName) (bytes : List ℕ) → HasBlock (seen_with v m) c → HasBlock (seen_with v (insert m b (Put lock false bytes))) c
there_still v m b c lock bytes has = elim (cases_eq c b) [
  | inl same ↦ (bytes, ap (seen_with v (insert m b (Put lock false bytes))).block_at same ∙ seen_at v m b lock bytes)
  | inr other ↦ (has.0, seen_apart v m b c lock bytes other ∙ has.1)
]

module _ {V : Type 0} (seen : V → Seen) (old mid new : Drafted V) (dir : ℕ) (f : Found) (leaf : List ℕ)
    (first : mid ≡ record old { fates = insert old.fates f.block (Put (inode_lock dir) false leaf) }) where
  pub there_mid : HasBlock (seen_in seen old) dir → HasBlock (seen_in seen mid) dir
  there_mid has = subst (λ (d : Drafted V). HasBlock (seen_in seen d) dir) (sym first) (there_still (seen old.view) old.fates f.block dir (inode_lock dir) leaf has)

  pub size_mid : (seen mid.view).size ≡ (seen old.view).size
  size_mid = ap (λ (d : Drafted V). (seen d.view).size) first

  same_mid : f.block ≢ dir → (seen_in seen mid).block_at dir ≡ (seen_in seen old).block_at dir
  same_mid other = ap (λ (d : Drafted V). (seen_in seen d).block_at dir) first ∙ seen_apart (seen old.view) old.fates f.block dir (inode_lock dir) leaf (λ e. other (sym e))

  pub cut_put : (d : Dinode) (before : List ℕ) → (seen_in seen mid).block_at dir ≡ Some before
      → new ≡ record mid { fates = insert mid.fates dir (Put (inode_lock dir) false (dinode_put d before)) }
      → ((bytes : List ℕ) → (seen_in seen old).block_at f.block ≡ Some bytes → IsLeafCut bytes leaf f.spot.at) → length leaf ≡ (seen old.view).size
      → dinode_read (dinode_put d before) ≡ Ok d → length (dinode_put d before) ≡ (seen mid.view).size → drop dinode_length (dinode_put d before) ≡ drop dinode_length before
      → IsCutPut seen old new dir f d
  cut_put d before there second cut long read block_long behind = record {
    leaf = leaf;
    block = dinode_put d before;
    put = second ∙ ap (λ (m : Drafted V). record m { fates = insert m.fates dir (Put (inode_lock dir) false (dinode_put d before)) }) first;
    cut = cut;
    counted = λ bytes at other. ap (dinode_put d) (same before bytes (sym there ∙ same_mid other ∙ at));
    read = read;
    behind = λ bytes at other. behind ∙ ap (drop dinode_length) (same before bytes (sym there ∙ same_mid other ∙ at));
    long = block_long ∙ size_mid;
    leaf_long = long;
  }
    where
      same : (x y : List ℕ) → Some x ≡ Some y → x ≡ y
      same x y e = cc
