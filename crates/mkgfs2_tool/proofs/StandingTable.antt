-- The dinode's block of a new image's directory of journals where it is a hashed one: its table stands behind the dinode.
use Rattle.std.proofs.Common.{ℕ, ◌≡◌, ◌+◌, ◌*◌, ◌^◌, ◌<◌, ◌≤◌, true, length, sym, ap, ◌∙◌, subst, arith}
use Rattle.std.specs.List.{range_with_len}
use Rattle.std.proofs.lemmas.Bool.{cond-true}
use Rattle.std.proofs.lemmas.List.FromFn.{length-range_with_len}
use Rattle.gfs2_layout.specs.Bytes.{put_at}
use Rattle.gfs2_layout.specs.Writing.{dinode_put}
use Rattle.gfs2_layout.specs.declared.dinode.Dinode.{Dinode}
use Rattle.mkgfs2_tool.specs.Groups.{data_address}
use Rattle.mkgfs2_tool.specs.Order.{journals_place, has_hashed_journals, journal_leaves, leaf_place}
use Rattle.mkgfs2_tool.specs.Hashing.{table_bytes, leaf_of_pointer}
use Rattle.mkgfs2_tool.specs.Blocks.{zeros, new_block, used_block, dinode, dinode_block, hashed_directory, journals_block}
use Rattle.mkgfs2_tool.specs.Making.{IsFitting}
use Rattle.mkgfs2_tool.specs.declared.plan.Plan.{Plan}
use Rattle.mkgfs2_tool.proofs.LeafLaws.{leaves_few, hashed_size}
use Rattle.mkgfs2_tool.proofs.PointerLaws.{length-pointers}
use Rattle.mkgfs2_tool.proofs.StandingGiven.{Known}
use Rattle.mkgfs2_tool.proofs.StandingDinodes.{IsDinodeBlock, dinode_put_is, IsSmall, dinode_widths}
use Rattle.mkgfs2_tool.proofs.StandingPlan.{address_low}
use Rattle.mkgfs2_tool.proofs.StandingOwners.{in_all, use_of_journals, journals_taken}
use Rattle.mkgfs2_tool.proofs.StandingDirs.{used_at}

pub table_long : (p : Plan) → length (table_bytes p) ≡ 256
unfolding table_bytes
table_long p = length-pointers (λ i. data_address p (leaf_place p (leaf_of_pointer p i))) (range_with_len 0 32) ∙ ap (λ n. 8 * n) (length-range_with_len 0 32)

module _ (p : Plan) (fit : IsFitting p) (known : Known p) (hashed : has_hashed_journals p ≡ true) where
  abbrev d : Dinode
  d = dinode p 4 (journals_place p) (hashed_directory p)

  small : IsSmall (hashed_directory p)
  small = record {
    mode = omega arith;
    nlink = omega arith;
    size = omega arith;
    blocks = few (journal_leaves p) (leaves_few p.size p.journals);
    flags = omega arith;
    payload_format = omega arith;
    height = omega arith;
    depth = omega arith;
    entries = count p.journals fit.plan.journals;
  }
    where
      few : (n : ℕ) → n ≤ 2 → 1 + n < 2 ^ 64
      few n le = omega (arith, le)

      count : (n : ℕ) → n ≤ 8 → 2 + n < 2 ^ 32
      count n le = omega (arith, le)

  near : data_address p (journals_place p) < 2 ^ 64
  near = through (data_address p (journals_place p)) p.count (address_low p fit (journals_place p) (in_all p fit (journals_place p) (journals_taken p))) fit.count
    where
      through : (a c : ℕ) → a < c → c ≤ 131072 → a < 2 ^ 64
      through a c low few = omega (arith, low, few)

  is_block : new_block p (data_address p (journals_place p)) ≡ put_at 232 (table_bytes p) (dinode_put d (zeros p))
  unfolding journals_block dinode_block used_block
  is_block = used_at p fit known (journals_place p) (journals_taken p) ∙ ap (used_block p) (use_of_journals p) ∙ cond-true _ _ _ hashed

  pub table_block_is : IsDinodeBlock p.size d (table_bytes p) (new_block p (data_address p (journals_place p)))
  table_block_is = subst (IsDinodeBlock p.size d (table_bytes p)) (sym is_block)
      (dinode_put_is known.given p.size d (table_bytes p) (omega (arith, table_long p, hashed_size p hashed)) (dinode_widths p 4 (journals_place p) (hashed_directory p) (omega arith) near known.time small))

  pub hashed_long : length (new_block p (data_address p (journals_place p))) ≡ p.size
  hashed_long = table_block_is.long
