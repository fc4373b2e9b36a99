pub mod RunLaws
pub mod ValueLaws
pub mod RebuildTables
