pub mod InOrder
pub mod Members
pub mod RankOrders
pub mod Choosing
pub mod LeastFirst
pub mod StayAlike
