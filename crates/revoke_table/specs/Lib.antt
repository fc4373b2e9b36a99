pub mod Revokes
