pub mod LockMapLaws
pub mod StateLaws
pub mod StateOrders
pub mod StepLaws
