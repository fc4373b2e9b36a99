use Rattle.std.proofs.Common.{◌≡◌, ◌∙◌, sym, true, arith}
use Rattle.gfs2_layout.specs.Structures.{is_in_use}
use Rattle.image_mount.proofs.Areas.{hash_found, idle_hashed, wrong_hash}
use Rattle.image_mount.proofs.listing.add.Goals as goal

pub returns-then-record-crc32-clause-refused : goal.returns-then-record-crc32-clause-refused
returns-then-record-crc32-clause-refused c im a area s at format low has there =
    let used : is_in_use c.args.record.now.head ≡ true = grind (arith, c.is_in_use.ensures, c.if-not-is_in_use.false) in
    wrong_hash im _ a c.args.block c.crc32.result area c.args.record.now.name.now c.args.record.now.head s c.damaged.ensures at format low has there used c.crc32.ensures c.if-record-crc32.true

pub returns-then-not-is_in_use-clause-hashed : goal.returns-then-not-is_in_use-clause-hashed
returns-then-not-is_in_use-clause-hashed c s at = idle_hashed c.args.record.now.head c.args.record.now.name.now s at (sym c.is_in_use.ensures ∙ c.if-not-is_in_use.true)

pub returns-clause-hashed : goal.returns-clause-hashed
returns-clause-hashed c s at = hash_found c.args.record.now.head c.args.record.now.name.now c.crc32.result s at c.crc32.ensures c.if-record-crc32.false
