use Rattle.std.proofs.Common.{◌≡◌, ◌++◌}
use Rattle.hash_dirs.specs.Walking.{IsAlong, OfEach, chain_names}
use Rattle.hash_dirs.proofs.listing.add_chain.Given as goal

abbrev pub invariant-loop-place : goal.invariant-loop-place
invariant-loop-place g l = record {
  along : IsAlong (g.V.View.seen l.view) l.dir l.head l._place l.link;
  listed : OfEach (g.V.View.seen l.view) l.dir l.head (λ h i. l.names.items ≡ l.fn.names.items ++ chain_names h i l._place);
}
