-- The blocks of content that an inode claims.
use Rattle.std.proofs.Common.{◌≡◌, ℕ, suc, List, Option, sym, subst, arith}
use Rattle.gfs2_layout.specs.Holding.{Holding}
use Rattle.gfs2_layout.specs.Inode.{Leads, from_dinode, from_block, height_in}
use Rattle.image_model.specs.Claims.{every, Claims, below}
use Rattle.image_model.specs.Image.{Image}
use Rattle.image_model.specs.Owners.{Below}
use Rattle.image_reader.specs.Reading.{held, image_at}
use Rattle.image_reader.specs.Untouched.{AllAreBelow}
use Rattle.image_reader.specs.declared.blocks.Blocks.{Blocks}
use Rattle.image_reader.specs.declared.inode.Inode.{Inode}
use Rattle.image_reader.specs.declared.owners.Claim.{Claim}
use Rattle.image_reader.proofs.InodeFaults.{said}

-- without pointers nothing is led to
no_leads : (h : Holding) (b k level first c : ℕ) → height_in h ≡ 0 → Leads h b k level first c → ⊥
no_leads h _ _ _ _ _ none (from_dinode k level height low some) = omega (arith, none, height)
no_leads h _ _ _ _ _ none (from_block b k level first c j leads low some) = no_leads h b k (suc level) first c none leads

pub leads_of_claim : (im : Image) (by a x b k level first : ℕ) → Claims im by x (Below a b k level first) → Leads (every im a) b k level first x
leads_of_claim im _ _ _ _ _ _ _ (below by a o b k level first c claimed dinode leads) = leads

pub none_below : (image : Blocks) (inode : Inode) (entries : List (Option Claim)) → inode.block.image ≡ image → inode.dinode.height ≡ 0 → AllAreBelow (image_at image) inode.block.number entries
none_below image inode entries same none by x b k level first claimed =
    let leads = leads_of_claim (image_at image) by inode.block.number x b k level first claimed in
    let here = subst (λ (i : Blocks). Leads (every (image_at i) inode.block.number) b k level first x) (sym same) leads in
    absurd (no_leads (held inode) b k level first x (said inode (λ d. d.height ≡ 0) none) here)
