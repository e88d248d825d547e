pub mod NoForm
