-- What an inode says: a file its bytes, a directory where its names lead.
use Rattle.std.specs.Prelude.{ℕ, if◌then◌else◌, List, Option, None}
use Rattle.gfs2_layout.specs.Holding.{Holding}
use Rattle.gfs2_layout.specs.Inode.{is_directory_in, content_of, records_of}
use Rattle.gfs2_layout.specs.Records.{is_dots, child_named}
use Rattle.image_model.specs.Flat.{Thing, AFile, ADir, Node}

abbrev pub thing_of : Holding → Thing
thing_of h = if is_directory_in h then ADir else AFile (content_of h)

-- where a name leads; `.` and `..` lead to no child
abbrev pub child_of : Holding → List ℕ → Option ℕ
child_of h name = if is_directory_in h then (if is_dots name then None else child_named (records_of h) name) else None

abbrev pub node_of : Holding → Node
node_of h = record { thing = thing_of h; child = child_of h }
