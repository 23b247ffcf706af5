pub mod Apart
pub mod Laws
pub mod Printed
pub mod Scan
