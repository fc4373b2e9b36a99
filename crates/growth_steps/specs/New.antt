-- The bytes of a new block below a file's dinode.
use Rattle.std.specs.Prelude.{ℕ, zero, suc, List, replicate}
use Rattle.gfs2_layout.specs.Writing.{header_put}

-- above the level of content a block has the header of an indirect block
abbrev pub headed : ℕ → List ℕ → List ℕ
headed zero bytes = bytes
headed (suc level) bytes = header_put (record { kind = 5; format = 500; jid = 0 }) bytes

-- zeros on the level of content; further up an indirect block that leads nowhere
abbrev pub new_bytes : ℕ → ℕ → List ℕ
new_bytes size level = headed level (replicate size 0)
