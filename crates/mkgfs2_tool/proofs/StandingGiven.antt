-- What the crates below give, by their public laws, and what is known of a plan.
use Rattle.std.proofs.Common.{ℕ, ◌≡◌, ◌+◌, ◌^◌, ◌<◌, ◌≤◌, true, List, ◌++◌, length, take, drop, replicate, Some, arith, length-append, length-drop}
use Rattle.std.specs.List.{All}
use Rattle.std.proofs.lemmas.List.{length-take-le}
use Rattle.std.proofs.lemmas.List.Elements.{All-replicate}
use Rattle.crc_words.specs.Remainder.{crc32_of}
use Rattle.gfs2_layout.specs.Bytes.{put_at}
use Rattle.gfs2_layout.specs.Laws.{AreasJoin, StructuresReadBack}
use Rattle.gfs2_layout.specs.Holding.{Part, Itself, Pointed, InChain, bytes_at, part_at}
use Rattle.log_layout.specs.Laws.{HeadersReadBack}
use Rattle.image_model.specs.Image.{Image}
use Rattle.image_model.specs.Laws.{HoldingsAreOwned, JournalsReadAlike, OwnersClaim}
use Rattle.image_model.specs.Owners.{Owners, Below, Chained, is_dinode, holding}
use Rattle.mkgfs2_tool.specs.declared.plan.Plan.{Plan}

pub record Given : Type 0 where
  pub structures : StructuresReadBack
  pub headers : HeadersReadBack
  pub areas : AreasJoin
  pub holdings : HoldingsAreOwned
  pub claims : OwnersClaim
  pub alike : JournalsReadAlike
  pub fits : (bytes : List ℕ) → All (λ byte. byte < 256) bytes → crc32_of bytes < 2 ^ 32

-- a plan as a program has it, and the laws
pub record Known (p : Plan) : Type 0 where
  pub uuid : length p.uuid ≡ 16
  pub time : p.time < 2 ^ 64
  pub given : Given

-- ---- what an inode holds

module _ (given : Given) (im : Image) (owners : Owners) where
  pub own_part : (a : ℕ) → is_dinode (owners a) ≡ true → part_at (holding im owners a) a ≡ Some Itself
  own_part = (given.holdings im owners).own

  pub itself_own : (a b : ℕ) → part_at (holding im owners a) b ≡ Some Itself → b ≡ a
  itself_own = (given.holdings im owners).itself

  pub pointed_owner : (a b above k level first : ℕ) → part_at (holding im owners a) b ≡ Some (Pointed above k level first) → owners b ≡ Below a above k level first
  pointed_owner a b above k level first = ((given.holdings im owners).pointed a b above k level first).0

  pub pointed_part : (a b above k level first : ℕ) → owners b ≡ Below a above k level first → part_at (holding im owners a) b ≡ Some (Pointed above k level first)
  pointed_part a b above k level first = ((given.holdings im owners).pointed a b above k level first).1

  pub chained_owner : (a b hash place : ℕ) → part_at (holding im owners a) b ≡ Some (InChain hash place) → owners b ≡ Chained a hash place
  chained_owner a b hash place = ((given.holdings im owners).chained a b hash place).0

  pub chained_part : (a b hash place : ℕ) → owners b ≡ Chained a hash place → part_at (holding im owners a) b ≡ Some (InChain hash place)
  chained_part a b hash place = ((given.holdings im owners).chained a b hash place).1

  pub block_same : (a b : ℕ) (part : Part) → part_at (holding im owners a) b ≡ Some part → bytes_at (holding im owners a) b ≡ im.at b
  block_same = (given.holdings im owners).bytes

  pub own_block : (a : ℕ) → is_dinode (owners a) ≡ true → bytes_at (holding im owners a) a ≡ im.at a
  own_block a dinode = block_same a a Itself (own_part a dinode)

-- ---- bytes that are put

pub length_put : (at : ℕ) (part bytes : List ℕ) → at + length part ≤ length bytes → length (put_at at part bytes) ≡ length bytes
length_put at part bytes fits = omega (arith, length-append (take at bytes) (part ++ drop (at + length part) bytes), length-append part (drop (at + length part) bytes), length-drop (at + length part) bytes, length-take-le at bytes (omega (arith, fits)), fits)

pub zeros_are_bytes : (n : ℕ) → All (λ byte. byte < 256) (replicate n 0)
zeros_are_bytes n = All-replicate (λ byte. byte < 256) n 0 (omega arith)
