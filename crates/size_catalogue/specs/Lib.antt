pub mod Places
pub mod SizeRow
pub mod Catalogue
pub mod Numbers
pub mod CatalogueIndex
pub mod Reading
