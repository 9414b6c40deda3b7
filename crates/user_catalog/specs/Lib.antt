-- Named graphs of a user.
pub mod Catalog
pub mod Laws
