pub mod Laws
pub mod VoteBits
pub mod HeadWords
pub mod PeerWords
pub mod PutBack
pub mod Sessions
pub mod Holding
pub mod Lent
