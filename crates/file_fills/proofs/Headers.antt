-- Headers that stay.
use Rattle.std.proofs.Common.{◌≡◌, inl, inr, ℕ, ◌+◌, ◌*◌, ◌≤◌, List, ◌++◌, length, take, drop, sym, ap, subst, ◌∙◌, arith}
use Rattle.std.proofs.lemmas.List.{length-take, take-append-drop, take-append-le, take-take}
use Rattle.std.proofs.lemmas.List.Elements.{Contains-append_cases}
use Rattle.std.specs.Prelude.{Contains, IsSome}
use Rattle.gfs2_layout.specs.Bytes.{put_at, with_number}
use Rattle.gfs2_layout.specs.Holding.{Holding, bytes_at}
use Rattle.gfs2_layout.specs.Inode.{header_length}
use Rattle.gfs2_layout.specs.Structures.{dinode_length}
use Rattle.gfs2_layout.specs.Writing.{dinode_put}
use Rattle.gfs2_layout.specs.declared.dinode.Dinode.{Dinode}
use Rattle.dinode_tree.specs.Pads.{dinode_over}
use Rattle.dinode_tree.proofs.Pads.{over_again}
use Rattle.growth_laws.specs.Blocks.{with_pointer}
use Rattle.growth_laws.specs.Files.{IsPlaced}
use Rattle.file_walks.specs.New.{new_bytes}
use Rattle.file_fills.specs.Headers.{HaveSamePads, KeepsHeaders}

-- ---- pads

-- of bytes that begin alike
pub same_front : (old new : List ℕ) → take dinode_length new ≡ take dinode_length old → HaveSamePads old new
unfolding dinode_over
same_front old new front d behind = ap (λ xs. dinode_put d (xs ++ behind)) (sym front)

-- a dinode is put over bytes that begin as the old ones do
pub put_over : (d : Dinode) (old over new : List ℕ) → dinode_length ≤ length old → take dinode_length over ≡ take dinode_length old → new ≡ dinode_put d over → HaveSamePads old new
unfolding dinode_over
put_over d old over new large front is d' behind = sym (over_again d d' old (drop dinode_length over) new behind large is_over)
  where
    is_over : new ≡ dinode_put d (take dinode_length old ++ drop dinode_length over)
    is_over = is ∙ ap (dinode_put d) (sym (take-append-drop dinode_length over) ∙ ap (λ xs. xs ++ drop dinode_length over) front)

-- ---- headers

-- one step after another, where the blocks of the middle go on to stand where they stood
pub headers_then : (h g k : Holding) (t1 t2 : List ℕ) → g.size ≡ h.size → g.own ≡ h.own → ((b : ℕ) → IsSome (h.cell b) → IsSome (g.cell b)) → ((b : ℕ) → Contains t1 b → IsSome (g.cell b))
    → ((b level first : ℕ) → IsSome (g.cell b) → IsPlaced k b level first → IsPlaced g b level first) → KeepsHeaders h g t1 → KeepsHeaders g k t2 → KeepsHeaders h k (t1 ++ t2)
headers_then h g k t1 t2 size own on took back a b = record {
  pads = λ d behind. a.pads d behind ∙ subst (λ x. HaveSamePads (bytes_at g x) (bytes_at k x)) own b.pads d behind;
  old = λ x level first had placed. b.old x level first (on x had) placed ∙ a.old x level first had (back x _ first (on x had) placed);
  new = λ x level first taken placed. elim (Contains-append_cases t1 t2 x taken) [
    | inl early ↦ b.old x level first (took x early) placed ∙ a.new x level first early (back x _ first (took x early) placed)
    | inr late ↦ b.new x level first late placed ∙ ap (λ n. take header_length (new_bytes n 1)) size
  ];
}

-- what stands before a pointer stays
pub before_pointer : (n start k to : ℕ) (bytes : List ℕ) → n ≤ start → n ≤ length bytes → take n (with_pointer start k to bytes) ≡ take n bytes
unfolding with_number
before_pointer n start k to bytes low fits =
    take-append-le n (take (start + 8 * k) bytes) _ (omega (arith, low, fits, length-take (start + 8 * k) bytes)) ∙ shorter
  where
    shorter : take n (take (start + 8 * k) bytes) ≡ take n bytes
    shorter = take-take n (start + 8 * k) bytes (omega (arith, low))
