-- What the criteria speak of is there: V never cuts off.
pub mod Spread
