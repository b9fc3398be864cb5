-- That a finished table keeps the laws of an action. These proofs stand here, and not in proofs/, since its ghost member cites them.
pub mod Edges
pub mod TestedLinks
