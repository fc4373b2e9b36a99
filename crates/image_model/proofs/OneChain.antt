-- What aren't two places of one chain of leaves.
use Rattle.std.proofs.Common.{◌≡◌, ℕ, true, sym, ◌∙◌}
use Rattle.image_model.specs.Owners.{Owner, Super, InGroup, Free, Nobody, Root, Master, Named, Below, Chained, AreOneChain, IsWithin, is_dinode}

-- a block to which a pointer leads is no leaf of a chain
pub below_no_chain : (o : Owner) (a b k level first : ℕ) → AreOneChain o (Below a b k level first) → ⊥
below_no_chain Super a b k level first one = one
below_no_chain (InGroup g) a b k level first one = one
below_no_chain (Free g) a b k level first one = one
below_no_chain Nobody a b k level first one = one
below_no_chain Root a b k level first one = one
below_no_chain Master a b k level first one = one
below_no_chain (Named parent name) a b k level first one = one
below_no_chain (Below d c j up from) a b k level first one = one
below_no_chain (Chained d hash place) a b k level first one = one

-- nor is a dinode
pub dinode_no_chain : (o p : Owner) → is_dinode p ≡ true → AreOneChain o p → ⊥
dinode_no_chain Super p dinode one = one
dinode_no_chain (InGroup g) p dinode one = one
dinode_no_chain (Free g) p dinode one = one
dinode_no_chain Nobody p dinode one = one
dinode_no_chain Root p dinode one = one
dinode_no_chain Master p dinode one = one
dinode_no_chain (Named parent name) p dinode one = one
dinode_no_chain (Below d c j up from) p dinode one = one
dinode_no_chain (Chained d hash place) Super dinode one = one
dinode_no_chain (Chained d hash place) (InGroup g) dinode one = one
dinode_no_chain (Chained d hash place) (Free g) dinode one = one
dinode_no_chain (Chained d hash place) Nobody dinode one = one
dinode_no_chain (Chained d hash place) Root dinode one = one
dinode_no_chain (Chained d hash place) Master dinode one = one
dinode_no_chain (Chained d hash place) (Named parent name) dinode one = one
dinode_no_chain (Chained d hash place) (Below a b k level first) dinode one = one
dinode_no_chain (Chained d hash place) (Chained a other later) dinode one = cc

-- leaves of one chain are of one directory
pub one_chain_within : (dir : ℕ) (o : Owner) (a hash place : ℕ) → IsWithin dir o → AreOneChain o (Chained a hash place) → a ≡ dir
one_chain_within dir (Chained d first before) a hash place within one = sym one.0 ∙ within
one_chain_within dir Super a hash place within one = absurd one
one_chain_within dir (InGroup g) a hash place within one = absurd one
one_chain_within dir (Free g) a hash place within one = absurd one
one_chain_within dir Nobody a hash place within one = absurd one
one_chain_within dir Root a hash place within one = absurd one
one_chain_within dir Master a hash place within one = absurd one
one_chain_within dir (Named parent name) a hash place within one = absurd one
one_chain_within dir (Below d c j up from) a hash place within one = absurd one
