pub mod OneWay
pub mod Order
pub mod Spec
pub mod Texts
