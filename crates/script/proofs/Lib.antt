-- Laws of scripts that the functions' proofs cite (Laws), and what comes of setting one (Sets).
pub mod Laws
pub mod Sets
